-- The boot step, by what the conversion of an admitted image owes.
use Rattle.std.proofs.Common.{◌≡◌, ℕ, ◌^◌, ◌<◌, Bool, true, false, cond, List, [], length, Ok, Err, Result, sym, refl, ap, ◌∙◌, subst}
use Rattle.std.specs.List.{AllByRecursion}
use Rattle.area.specs.Fault.{refuse}
use Rattle.area.specs.declared.fault.Fault.{Fault}
use Rattle.area.specs.declared.fault.Refusal.TheVariants.{ByteLength}
use Rattle.column.specs.Column.{Areas, append_answer}
use Rattle.column.specs.Kind.{Format}
use Rattle.storage.specs.Store.{join_words, length_stands}
use Rattle.storage.specs.declared.write.Full.{Full}
use Rattle.read.specs.Admission.{admission}
use Rattle.stash.specs.Convert.{ConvertsInto}
use Rattle.stash.specs.History.{admitted, bytes, holds, passed}
use Rattle.stash.specs.declared.convert.ConvertFault.{ConvertFault}
use Rattle.stash.specs.declared.convert.ConvertFault.TheVariants.{Refused}
use Rattle.boot.specs.Boot.{Boots, ListBoots}
use Rattle.boot.specs.declared.convert.Done.{Done}

module _ {E : Type 0} (fits : E → Bool) (F : Format E) (t : Areas → List E → E → Bool) (b : Areas) (bs was area : List ℕ) (whole : AllByRecursion (λ w. w < 2 ^ 64) (join_words bs)) where
  abbrev words : List ℕ
  words = join_words bs

  held_by : (xs : List E) → admission F words ≡ Ok xs → holds F (bytes words) ≡ xs
  held_by xs e = ap (λ r. elim r [ Ok ys ↦ ys | Err f ↦ [] ]) e

  booted_by : (xs : List E) (d : Done) → admission F words ≡ Ok xs → d.length ≡ length (holds F (bytes words)) → ConvertsInto fits F t (bytes words) b was area (Ok d.bytes) → ListBoots fits F (t b) xs was area (Ok d)
  booted_by xs d e n c =
      let h = held_by xs e in
      let o = c.1.1 xs (admitted words xs whole e) in (
        ap (append_answer (t b) []) (sym h) ∙ c.0,
        record { elements = n ∙ ap length h; size = o.0; image = o.1; claim = o.2.1 },
      )

  abbrev ListAnswer : Result (List E) Fault → Result Done (ConvertFault Full) → Type 0
  ListAnswer q r = elim q [ Ok xs ↦ ListBoots fits F (t b) xs was area r | Err f ↦ (r ≡ Err (Refused f)) × (area ≡ was) ]

  admitted_by : (r : Result (List E) Fault) (d : Done) → admission F words ≡ r → passed r ≡ Ok tt → d.length ≡ length (holds F (bytes words)) → ConvertsInto fits F t (bytes words) b was area (Ok d.bytes) → ListAnswer r (Ok d)
  admitted_by (Ok xs) d e p n c = booted_by xs d e n c
  admitted_by (Err f) d e p n c = cc

  stands_by : (q : Bool) (r : Result Done (ConvertFault Full)) → q ≡ true → ListAnswer (admission F words) r → ListAnswer (cond q (admission F words) (Err (refuse ByteLength 0))) r
  stands_by true r s a = a
  stands_by false r s a = cc

  pub booted : (d : Done) → length_stands bs ≡ true → passed (admission F words) ≡ Ok tt → d.length ≡ length (holds F (bytes words)) → ConvertsInto fits F t (bytes words) b was area (Ok d.bytes) → Boots fits F (t b) bs was area (Ok d)
  booted d s p n c = stands_by (length_stands bs) (Ok d) s (admitted_by (admission F words) d refl p n c)

-- the same of a format, a column's taking and its areas under other names
pub same_kind : {E : Type 0} (fits : E → Bool) {F G : Format E} {t u : Areas → List E → E → Bool} {a b : Areas} (bs was area : List ℕ) (r : Result Done (ConvertFault Full)) → F ≡ G → t ≡ u → a ≡ b → Boots fits F (t a) bs was area r → Boots fits G (u b) bs was area r
same_kind fits {F} {G} {t} {u} {a} {b} bs was area r e f h =
    λ x. subst (λ H. Boots fits H (u b) bs was area r) e (subst (λ v. Boots fits F (v b) bs was area r) f (subst (λ c. Boots fits F (t c) bs was area r) h x))
