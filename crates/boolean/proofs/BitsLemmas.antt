-- Bits as numbers: lists of bits joined and cut, shifted words, how many of a run of bits are taken, and the bits at a place.
use Rattle.std.proofs.Common.{◌≡◌, ℕ, zero, suc, ◌+◌, ◌-◌, ◌*◌, ◌/◌, ◌%◌, ◌^◌, ◌<◌, ◌≤◌, Bool, true, false, cond, eqb, ltb, leb, List, [], ◌∷◌, ◌++◌, length, get_or, take, drop, drop-cons, Ok, Err, Result, sym, refl, ap, ◌∙◌, subst, ap₂, ⊎_elim, append_assoc, mod-eq_of_lt, mul_assoc, mul_comm, add_comm, mul-zero, mul-suc, div-one, arith, length-append, length-take}
use native.Mathlib.Nat.{pow-succ', pow-le-pow_right, pow-zero, div-eq_of_lt, mul-mod_left}
use lib.Bits.{bit_and, bit_or, or_shifted_r}
use lib.Dec.{eqb-zero-suc, eqb-suc-suc}
use lib.Pow.{mod-mod-pow}
use lib.Seq.{take-append-add}
use Rattle.std.specs.Int.{from_bool}
use Rattle.std.specs.List.{flat_map}
use Rattle.std.specs.Result.{result_unwrap_or}
use Rattle.std.proofs.lemmas.Nat.{shl-shr, shr-shr, shr_high, mod_low, mod-pow-add, field_of, mod_below, pow_pos, and_mask}
use Rattle.std.proofs.lemmas.List.{take-append-drop, take_all, drop_all, take_at, length-take-le, length-drop, length_push}
use Rattle.std.proofs.lemmas.Bool.{cases_lt, cond_both, and_parts, leb-true, ltb-true, lt-ltb, le-leb, lt-leb, eq-eqb, ne_eqb}
use Rattle.area.specs.Fault.{refuse}
use Rattle.area.specs.declared.fault.Fault.{Fault}
use Rattle.area.specs.declared.fault.Refusal.TheVariants.{NotTaken, OutOfRange}
use Rattle.boolean.specs.Bools.{bit, from_bits, to_bits, groups, rest, held_bits, bools_takes, given_bits, bits_taken, bits_pushed, push_bits_answer, range_bits}
use Rattle.boolean.specs.BoolsLaws.{Stands, few_elements, length-to_bits, to_bits-from_bits, from_bits-to_bits, from_bits_low, from_bits_lt, length-held, held_stands, length_rest, rest_more, rest-full, bits_more}
use Rattle.column.specs.Column.{Areas, element, taken, pushed, push_answer}
use Rattle.column.specs.Kind.{Held, L}
use Rattle.column.proofs.ColumnLemmas.{element_at_lem, element_past}
use Rattle.column.proofs.WordLemmas.{is_word}

-- the number of joined and of cut bits
pub from_bits-append : (xs ys : List Bool) → from_bits (xs ++ ys) ≡ from_bits xs + 2 ^ length xs * from_bits ys
from_bits-append [] ys = omega arith
from_bits-append (x ∷ xs) ys = rw (pow-succ', mul_assoc) (omega (arith, from_bits-append xs ys))

cut : (n : ℕ) (xs : List Bool) → from_bits xs ≡ from_bits (drop n xs) * 2 ^ n + from_bits (take n xs)
cut n xs = ⊎_elim short whole (cases_lt (length xs) n)
  where
    short : length xs < n → from_bits xs ≡ from_bits (drop n xs) * 2 ^ n + from_bits (take n xs)
    short l = rw (take_all n xs (omega arith), drop_all n xs (omega arith)) (omega arith)

    whole : n ≤ length xs → from_bits xs ≡ from_bits (drop n xs) * 2 ^ n + from_bits (take n xs)
    whole l =
        ap from_bits (sym (take-append-drop n xs)) ∙ from_bits-append (take n xs) (drop n xs)
        ∙ (rw (length-take-le n xs l) (omega (arith, mul_comm (2 ^ n) (from_bits (drop n xs)))))

low : (n : ℕ) (xs : List Bool) → from_bits (take n xs) < 2 ^ n
low n xs =
    let p : 0 < 2 = omega arith in
    let l : length (take n xs) ≤ n = simp length-take (omega arith) in
    omega (arith, from_bits_lt (take n xs), pow-le-pow_right p l)

pub from_bits-drop : (n : ℕ) (xs : List Bool) → from_bits (drop n xs) ≡ from_bits xs / 2 ^ n
from_bits-drop n xs = sym (ap (λ m. m / 2 ^ n) (cut n xs) ∙ shr_high (from_bits (drop n xs)) n (from_bits (take n xs)) (low n xs))

pub from_bits-take : (n : ℕ) (xs : List Bool) → from_bits (take n xs) ≡ from_bits xs % 2 ^ n
from_bits-take n xs = sym (ap (λ m. m % 2 ^ n) (cut n xs) ∙ mod_low (from_bits (drop n xs)) n (from_bits (take n xs)) (low n xs))

-- bits are known by how many they are and by their number
pub to_bits_is : (n w : ℕ) (bs : List Bool) → length bs ≡ n → from_bits bs ≡ w → to_bits n w ≡ bs
to_bits_is n w bs l e = ap₂ to_bits (sym l) (sym e) ∙ to_bits-from_bits bs

-- a word shifted up by n, and its k lowest bits put above n bits
shl_cut : (b n k : ℕ) → k + n ≡ 64 → (b * 2 ^ n) % 2 ^ 64 ≡ b % 2 ^ k * 2 ^ n
shl_cut b n k e =
    ap (λ m. (b * 2 ^ n) % 2 ^ m) (sym e) ∙ mod-pow-add (b * 2 ^ n) k n
    ∙ rw (shl-shr, mul-mod_left) (omega arith)

pub or_shl : (w b n k : ℕ) → k + n ≡ 64 → w < 2 ^ n → bit_or w ((b * 2 ^ n) % 2 ^ 64) ≡ b % 2 ^ k * 2 ^ n + w
or_shl w b n k e h = ap (bit_or w) (shl_cut b n k e) ∙ or_shifted_r (b % 2 ^ k) n w h

-- How many of ys are taken.
-- a list never takes more than it has room for
taken_room : (t : List Bool → Bool → Bool) → ((xs : List Bool) (x : Bool) → t xs x ≡ true → length xs < L) → (xs ys : List Bool) → length xs ≤ L → length xs + taken t xs ys ≤ L
taken_room t f xs [] l = omega arith
taken_room t f xs (y ∷ ys) l =
    cond_both (t xs y) (suc (taken t (xs ++ y ∷ []) ys)) 0 (λ k. length xs + k ≤ L)
    (λ e.
    let h = f xs y e in
    let p = length_push xs y in
    omega (arith, taken_room t f (xs ++ y ∷ []) ys (omega arith)))
    (λ e. omega arith)

module _ (below : Areas → List ℕ → ℕ → Bool) (a : Areas) where
  takes_room : (xs : List Bool) (x : Bool) → bools_takes below a xs x ≡ true → length xs < L
  takes_room xs x e = ltb-true (length xs) L (and_parts (ltb (length xs) L) _ e).0

  -- as long as no word is completed, all are
  taken-short : (xs ys : List Bool) → length (rest xs) + length ys ≤ 63 → length xs + length ys ≤ L → taken (bools_takes below a) xs ys ≡ length ys
  taken-short xs [] h l = refl
  taken-short xs (y ∷ ys) h l =
      let r = (rest_more xs y (omega arith)).1 in
      let p = length_push xs y in
      let q = length_push (rest xs) y in
      let s = ap length r in
      rw (lt-ltb (length xs) L (omega arith), ne_eqb (length (rest xs)) 63 (omega arith)) (ap suc (taken-short (xs ++ y ∷ []) ys (omega arith) (omega arith)))

  -- of at most 64 bits that complete a word, all are taken exactly when that word is
  taken_word : (xs ys : List Bool) → 64 ≤ length (rest xs) + length ys → length ys ≤ 64 → length xs + length ys ≤ L → eqb (taken (bools_takes below a) xs ys) (length ys) ≡ below a (groups xs) (from_bits (take 64 (rest xs ++ ys)))
  taken_word xs [] g h l = absurd (omega (arith, length_rest xs))
  taken_word xs (y ∷ ys) g h l =
      let room = lt-ltb (length xs) L (omega arith) in
      let p = length_push xs y in
      ⊎_elim
      (λ (k : length (rest xs) < 63).
      let r = rest_more xs y k in
      let s = ap length r.1 ∙ length_push (rest xs) y in
      rw (room, ne_eqb (length (rest xs)) 63 (omega arith))
      (eqb-suc-suc (taken (bools_takes below a) (xs ++ y ∷ []) ys) (length ys)
      ∙ taken_word (xs ++ y ∷ []) ys (omega arith) (omega arith) (omega arith)
      ∙ ap₂ (λ ws bs. below a ws (from_bits (take 64 (bs ++ ys)))) r.0 r.1
      ∙ ap (λ bs. below a (groups xs) (from_bits (take 64 bs))) (append_assoc (rest xs) (y ∷ []) ys)))
      (λ (k : 63 ≤ length (rest xs)).
      let e : length (rest xs) ≡ 63 = omega (arith, length_rest xs) in
      let s = ap length (rest-full xs y e).1 in
      let last = rest xs ++ y ∷ [] in
      let word : take 64 (rest xs ++ y ∷ ys) ≡ last = ap (take 64) (sym (append_assoc (rest xs) (y ∷ []) ys)) ∙ take_at last ys 64 (omega (arith, length_push (rest xs) y)) in
      let then = taken-short (xs ++ y ∷ []) ys (omega arith) (omega arith) in
      rw (room, eq-eqb (length (rest xs)) 63 e, word, then)
      (cond_both (below a (groups xs) (from_bits last)) (suc (length ys)) 0 (λ n. eqb n (suc (length ys)) ≡ below a (groups xs) (from_bits last))
      (λ t. eq-eqb (suc (length ys)) (suc (length ys)) refl ∙ sym t)
      (λ t. eqb-zero-suc (length ys) ∙ sym t)))
      (cases_lt (length (rest xs)) 63)

-- what a push that was refused or taken answered and left
module _ {E : Type 0} (xs ys : List E) (x : E) where
  pub push_refused : (v : Bool) {f : Fault} → Err f ≡ push_answer v → ys ≡ pushed v xs x → (v ≡ false) × (f ≡ refuse NotTaken 0) × (ys ≡ xs)
  push_refused false e h = (refl, cc, h)
  push_refused true e h = let z : ◌≡◌ {A = ℕ} 0 1 = cc in absurd (omega arith)

  pub push-taken : (v : Bool) {u : Unit {0}} → Ok u ≡ push_answer v → ys ≡ pushed v xs x → (v ≡ true) × (ys ≡ xs ++ x ∷ [])
  push-taken true e h = (refl, h)
  push-taken false e h = let z : ◌≡◌ {A = ℕ} 0 1 = cc in absurd (omega arith)

-- Words, and a tail of the n bits of w after them.
pub record Kept (ws : List ℕ) (n w : ℕ) : Type 0 where
  pub words : Held is_word ws
  pub few : n ≤ 63
  pub clean : w < 2 ^ n
  pub short : 64 * length ws + n ≤ L

-- m is how many of the words their column says that it holds
pub kept : (ws : List ℕ) (n w : ℕ) {m : ℕ} → m ≡ length ws → Held is_word ws → n ≤ 63 → w < 2 ^ n → 64 * m + n ≤ L → Kept ws n w
kept ws n w p words few clean short = record { words = words; few = few; clean = clean; short = few_elements ws n p short }

-- and back: what holds of so many words holds of as many as the column says
pub still_few : (ws : List ℕ) (n : ℕ) {m : ℕ} → m ≡ length ws → 64 * length ws + n ≤ L → 64 * m + n ≤ L
still_few ws n p h = omega (arith, p, h)

-- the word w of n bits with the bits of b above them
abbrev pub filled : ℕ → ℕ → ℕ → ℕ
filled w n b = bit_or w ((b * 2 ^ n) % 2 ^ 64)

-- what a push of the m lowest bits of b to xs answers and leaves
pub record Pushed (t : List Bool → Bool → Bool) (xs : List Bool) (b m : ℕ) (r : Result (Unit {0}) Fault) (ys : List Bool) : Type 0 where
  pub answer : r ≡ push_bits_answer t xs b m
  pub after : ys ≡ bits_pushed t xs b m

module _ {ws : List ℕ} {n w : ℕ} (k : Kept ws n w) where
  abbrev held : List Bool
  held = held_bits ws n w

  stands : Stands held ws (to_bits n w)
  stands = held_stands ws n w k.words k.few

  pub length_most : length held ≤ L
  length_most = omega (arith, length-held ws n w, k.short)

  module _ (b m : ℕ) (given : true ≡ given_bits b m) where
    most : m ≤ 64
    most = leb-true m 64 (and_parts (leb m 64) (ltb b (2 ^ m)) (sym given)).0

    under : b < 2 ^ m
    under = ltb-true b (2 ^ m) (and_parts (leb m 64) (ltb b (2 ^ m)) (sym given)).1

    from_bits_both : (j : ℕ) → j + n ≡ 64 → from_bits (to_bits n w ++ take j (to_bits m b)) ≡ filled w n b
    from_bits_both j e =
        from_bits-append (to_bits n w) (take j (to_bits m b))
        ∙ (rw (length-to_bits n w, from_bits-to_bits n w k.clean, from_bits-take j (to_bits m b), from_bits-to_bits m b under, or_shl w b n j e k.clean)
        (omega (arith, mul_comm (2 ^ n) (b % 2 ^ j))))

    -- the words and the tail afterwards, which hold the bits too
    pub record Grown (vs : List ℕ) (j x : ℕ) : Type 0 where
      pub few : j ≤ 63
      pub clean : x < 2 ^ j
      pub short : 64 * length vs + j ≤ L
      pub list : held_bits vs j x ≡ held ++ to_bits m b

    module _ (room : m ≤ L - length held) where
      -- no word is completed
      pub grown_below : n + m < 64 → Grown ws (n + m) (filled w n b)
      grown_below l =
          let bs = to_bits n w ++ to_bits m b in
          let number_is : from_bits bs ≡ filled w n b =
          ap (λ ys. from_bits (to_bits n w ++ ys)) (sym (take_all (64 - n) (to_bits m b) (omega (arith, length-to_bits m b)))) ∙ from_bits_both (64 - n) (omega arith) in
          let length-is : length bs ≡ n + m = length-append (to_bits n w) (to_bits m b) ∙ ap₂ (λ x y. x + y) (length-to_bits n w) (length-to_bits m b) in
          record {
            few = omega arith;
            clean = rw (number_is, length-is) at (from_bits_lt bs);
            short = omega (arith, room, length_most, length-held ws n w);
            list =
                ap (λ ys. flat_map (to_bits 64) ws ++ ys) (to_bits_is (n + m) (filled w n b) bs length-is number_is)
                ∙ sym (append_assoc (flat_map (to_bits 64) ws) (to_bits n w) (to_bits m b));
          }

      -- a word is completed, which the column below takes; a shift by all 64 bits leaves none
      module _ (l : 64 ≤ n + m) {u : Unit {0}} (v : Bool) (ok : Ok u ≡ push_answer v) (vs : List ℕ) (after : vs ≡ pushed v ws (filled w n b)) (x : ℕ) (shifted : x ≡ cond (ltb (64 - n) 64) (b / 2 ^ (64 - n)) 0) where
        more : vs ≡ ws ++ filled w n b ∷ []
        more = (push-taken ws vs (filled w n b) v ok after).1

        left : x ≡ b / 2 ^ (64 - n)
        left = ⊎_elim
            (λ (h : 64 - n < 64). shifted ∙ ap (λ t. cond t (b / 2 ^ (64 - n)) 0) (lt-ltb (64 - n) 64 h))
            (λ (h : 64 ≤ 64 - n).
            let j : 64 - n ≡ 64 = omega arith in
            let p : 0 < 2 = omega arith in
            shifted ∙ rw j (sym (div-eq_of_lt (omega (arith, under, pow-le-pow_right p most)))))
            (cases_lt (64 - n) 64)

        pub grown_above : Grown vs (n + m - 64) x
        grown_above =
            let j = 64 - n in
            let new = to_bits m b in
            let bs = to_bits n w ++ take j new in
            let e : j + n ≡ 64 = omega (arith, k.few) in
            let o = length-to_bits m b in
            let length-is : length bs ≡ 64 = length-append (to_bits n w) (take j new) ∙ omega (arith, length-to_bits n w, length-take-le j new (omega arith)) in
            let length-left : length (drop j new) ≡ n + m - 64 = length-drop j new ∙ omega (arith, o, e) in
            let number-left : from_bits (drop j new) ≡ x = from_bits-drop j new ∙ ap (λ y. y / 2 ^ j) (from_bits-to_bits m b under) ∙ sym left in
            record {
              few = omega (arith, k.few, most);
              clean = rw (number-left, length-left) at (from_bits_lt (drop j new));
              short = omega (arith, room, length_most, length-held ws n w, ap length more, length_push ws (filled w n b));
              list =
                  ap₂ (λ us ys. flat_map (to_bits 64) us ++ ys) (more ∙ ap (λ v. ws ++ v ∷ []) (sym (from_bits_both j e))) (to_bits_is (n + m - 64) x (drop j new) length-left number-left)
                  ∙ ap (λ ys. ys ++ drop j new) (bits_more ws bs length-is)
                  ∙ simp append_assoc (ap (λ ys. flat_map (to_bits 64) ws ++ (to_bits n w ++ ys)) (take-append-drop j new));
            }

    module _ (below : Areas → List ℕ → ℕ → Bool) (a : Areas) where
      abbrev takes : List Bool → Bool → Bool
      takes = bools_takes below a

      abbrev all_taken : Bool
      all_taken = bits_taken takes held b m

      -- what is answered and left, by whether all are taken
      by_taken : (v : Bool) → all_taken ≡ v → Pushed takes held b m (push_answer v) (cond v (held ++ to_bits m b) held)
      by_taken v e = record {
        answer = rw (le-leb m 64 most, lt-ltb b (2 ^ m) under, e);
        after = rw (le-leb m 64 most, lt-ltb b (2 ^ m) under, e);
      }

      pub no_room : L - length held < m → (f : Fault) → f ≡ refuse NotTaken 0 → Pushed takes held b m (Err f) held
      no_room h f e = rw e
          (by_taken false
          (ne_eqb (taken takes held (to_bits m b)) m (λ q. omega (arith, taken_room takes (takes_room below a) held (to_bits m b) length_most))))

      module _ (room : m ≤ L - length held) where
        pub taken_all : n + m < 64 → all_taken ≡ true
        taken_all s =
            let r = ap length stands.1 in
            let o = length-to_bits n w in
            let p = length-to_bits m b in
            let f = length_most in
            eq-eqb (taken takes held (to_bits m b)) m (taken-short below a held (to_bits m b) (omega arith) (omega arith) ∙ p)

        pub pushed_below : n + m < 64 → Pushed takes held b m (Ok tt) (held_bits ws (n + m) (filled w n b))
        pushed_below s = rw (grown_below room s).list (by_taken true (taken_all s))

        pub taken-filled : 64 ≤ n + m → all_taken ≡ below a ws (filled w n b)
        taken-filled s =
            let old = to_bits n w in
            let new = to_bits m b in
            let r = ap length stands.1 in
            let o = length-to_bits n w in
            let p = length-to_bits m b in
            let f = length_most in
            let q : 64 ≡ length old + (64 - n) = omega (arith, k.few) in
            ap (eqb (taken takes held new)) (sym p)
            ∙ taken_word below a held new (omega arith) (omega (arith, most)) (omega arith)
            ∙ ap₂ (λ vs bs. below a vs (from_bits (take 64 (bs ++ new)))) stands.0 stands.1
            ∙ ap (λ bs. below a ws (from_bits bs)) (ap (λ x. take x (old ++ new)) q ∙ take-append-add old new (64 - n))
            ∙ ap (below a ws) (from_bits_both (64 - n) (omega (arith, k.few)))

        -- what the column below answers to the completed word
        module _ (s : 64 ≤ n + m) (vs : List ℕ) (after : vs ≡ pushed (below a ws (filled w n b)) ws (filled w n b)) where
          pub pushed_refused : (f : Fault) → Err f ≡ push_answer (below a ws (filled w n b)) → Pushed takes held b m (Err f) (held_bits vs n w)
          pushed_refused f e =
              let q = push_refused ws vs (filled w n b) (below a ws (filled w n b)) e after in
              rw (q.1, q.2) (by_taken false (taken-filled s ∙ q.0))

          pub pushed_above : {u : Unit {0}} → Ok u ≡ push_answer (below a ws (filled w n b)) → (x : ℕ) → x ≡ cond (ltb (64 - n) 64) (b / 2 ^ (64 - n)) 0 → Pushed takes held b m (Ok tt) (held_bits vs (n + m - 64) x)
          pushed_above e x shifted = rw (grown_above room s (below a ws (filled w n b)) e vs after x shifted).list
              (by_taken true (taken-filled s ∙ (push-taken ws vs (filled w n b) (below a ws (filled w n b)) e after).0))

-- one element is taken as a push of one bit is
pub one_given : (x : Bool) → true ≡ given_bits (from_bool x) 1
one_given true = refl
one_given false = refl

one-taken : (t : List Bool → Bool → Bool) (xs : List Bool) (x : Bool) → bits_taken t xs (from_bool x) 1 ≡ t xs x
one-taken t xs true = elim (t xs true) as (λ v. eqb (cond v 1 0) 1 ≡ v) [ true ↦ refl | false ↦ refl ]
one-taken t xs false = elim (t xs false) as (λ v. eqb (cond v 1 0) 1 ≡ v) [ true ↦ refl | false ↦ refl ]

module _ {ws : List ℕ} {n w : ℕ} (k : Kept ws n w) (below : Areas → List ℕ → ℕ → Bool) (a : Areas) (x : Bool) (room : length (held_bits ws n w) < L) where
  pub takes_few : n < 63 → true ≡ bools_takes below a (held_bits ws n w) x
  takes_few h = sym (taken_all k (from_bool x) 1 (one_given x) below a (omega arith) (omega arith)) ∙ one-taken (bools_takes below a) (held_bits ws n w) x

  pub takes_full : (b : ℕ) → 63 ≤ n → b ≡ from_bool x → below a ws (filled w 63 b) ≡ bools_takes below a (held_bits ws n w) x
  takes_full b h e =
      let q : 63 ≡ n = omega (arith, k.few) in
      ap₂ (λ j v. below a ws (filled w j v)) q e
      ∙ sym (taken-filled k (from_bool x) 1 (one_given x) below a (omega arith) (omega arith)) ∙ one-taken (bools_takes below a) (held_bits ws n w) x

-- The bits at a place.
-- word k of the number that words of j bits and a tail write
module _ (j n w : ℕ) (clean : w < 2 ^ n) where
  abbrev written : List ℕ → ℕ
  written ws = from_bits (flat_map (to_bits j) ws ++ to_bits n w)

  first_word : (v : ℕ) (ws : List ℕ) → written (v ∷ ws) ≡ written ws * 2 ^ j + v % 2 ^ j
  first_word v ws =
      ap from_bits (append_assoc (to_bits j v) (flat_map (to_bits j) ws) (to_bits n w))
      ∙ from_bits-append (to_bits j v) (flat_map (to_bits j) ws ++ to_bits n w)
      ∙ (rw (length-to_bits j v, from_bits_low j v) (omega (arith, mul_comm (2 ^ j) (written ws))))

  pub word_of : (ws : List ℕ) (k : ℕ) → k ≤ length ws → written ws / 2 ^ (j * k) % 2 ^ j ≡ get_or ws k w % 2 ^ j
  word_of [] zero h = rw (mul-zero, pow-zero, div-one, from_bits-to_bits n w clean)
  word_of [] (suc k) h = absurd (omega arith)
  word_of (v ∷ ws) zero h = rw (mul-zero, pow-zero, div-one, first_word v ws) (mod_low (written ws) j (v % 2 ^ j) (mod_below v (2 ^ j) (pow_pos j)))
  word_of (v ∷ ws) (suc k) h =
      rw (first_word v ws, mul-suc, add_comm (j * k) j, ← shr-shr (written ws * 2 ^ j + v % 2 ^ j) j (j * k), shr_high (written ws) j (v % 2 ^ j) (mod_below v (2 ^ j) (pow_pos j)))
      (word_of ws k (omega arith))

module _ (r v : ℕ) (v-is : r % 2 ^ 64 ≡ v) (s k : ℕ) (e : s + k ≡ 64) where
  -- one word, shifted down by s
  one_word : r / 2 ^ s % 2 ^ k ≡ v / 2 ^ s
  one_word = sym (field_of r k s) ∙ ap (λ x. r % 2 ^ x / 2 ^ s) (add_comm k s ∙ e) ∙ ap (λ x. x / 2 ^ s) v-is

  -- and the next word above it
  two_words : (u : ℕ) → r / 2 ^ 64 % 2 ^ 64 ≡ u → r / 2 ^ s % 2 ^ 64 ≡ filled (v / 2 ^ s) k u
  two_words u u-is =
      let top : r / 2 ^ s / 2 ^ k ≡ r / 2 ^ 64 = shr-shr r s k ∙ ap (λ x. r / 2 ^ x) e in
      let low-u : r / 2 ^ 64 % 2 ^ s ≡ u % 2 ^ s = sym (mod-mod-pow (r / 2 ^ 64) k s) ∙ ap (λ x. r / 2 ^ 64 % 2 ^ x % 2 ^ s) (add_comm k s ∙ e) ∙ ap (λ x. x % 2 ^ s) u-is in
      let small : v / 2 ^ s < 2 ^ k = subst (λ x. x < 2 ^ k) one_word (mod_below (r / 2 ^ s) (2 ^ k) (pow_pos k)) in
      ap (λ x. r / 2 ^ s % 2 ^ x) (sym e) ∙ mod-pow-add (r / 2 ^ s) s k
      ∙ ap₂ (λ x y. x * 2 ^ k + y) (ap (λ x. x % 2 ^ s) top ∙ low-u) one_word
      ∙ sym (or_shl (v / 2 ^ s) u k s e small)

-- x has the m bits at place i lowest
abbrev pub Reads : List Bool → ℕ → ℕ → ℕ → Type 0
Reads xs i m x = from_bits (take m (drop i xs)) ≡ x % 2 ^ m

-- the m bits at place i, of one word or of two
module _ (ws : List ℕ) (n w : ℕ) (few : n ≤ 63) (clean : w < 2 ^ n) (i m : ℕ) (h : i + m ≤ length (held_bits ws n w)) where
  abbrev whole : ℕ
  whole = from_bits (held_bits ws n w)

  abbrev from : ℕ
  from = whole / 2 ^ (64 * (i / 64))

  read : (j : ℕ) → m ≤ j → from_bits (take m (drop i (held_bits ws n w))) ≡ from / 2 ^ (i % 64) % 2 ^ j % 2 ^ m
  read j l =
      let e : i ≡ 64 * (i / 64) + i % 64 = omega arith in
      let f : (j - m) + m ≡ j = omega arith in
      from_bits-take m (drop i (held_bits ws n w))
      ∙ ap (λ x. x % 2 ^ m) (from_bits-drop i (held_bits ws n w) ∙ ap (λ x. whole / 2 ^ x) e ∙ sym (shr-shr whole (64 * (i / 64)) (i % 64)))
      ∙ sym (mod-mod-pow (from / 2 ^ (i % 64)) (j - m) m) ∙ ap (λ x. from / 2 ^ (i % 64) % 2 ^ x % 2 ^ m) f

  module _ (v : ℕ) (v-is : v ≡ get_or ws (i / 64) w) (v-fits : v < 2 ^ 64) where
    first : from % 2 ^ 64 ≡ v
    first = word_of 64 n w clean ws (i / 64) (omega (arith, length-held ws n w)) ∙ ap (λ x. x % 2 ^ 64) (sym v-is) ∙ mod-eq_of_lt v-fits

    pub read_one : i % 64 + m ≤ 64 → (x : ℕ) → x ≡ v / 2 ^ (i % 64) → Reads (held_bits ws n w) i m x
    read_one l x x-is =
        let s = i % 64 in
        read (64 - s) (omega arith) ∙ ap (λ y. y % 2 ^ m) (one_word from v first s (64 - s) (omega arith) ∙ sym x-is)

    pub read_two : 64 < i % 64 + m → m ≤ 64 → (u : ℕ) → u ≡ get_or ws (i / 64 + 1) w → u < 2 ^ 64 → (x : ℕ) → x ≡ filled (v / 2 ^ (i % 64)) (64 - i % 64) u → Reads (held_bits ws n w) i m x
    read_two l q u u-is u-fits x x-is =
        let s = i % 64 in
        let e : 64 * (i / 64) + 64 ≡ 64 * (i / 64 + 1) = omega arith in
        let second : from / 2 ^ 64 % 2 ^ 64 ≡ u =
        ap (λ y. y % 2 ^ 64) (shr-shr whole (64 * (i / 64)) 64 ∙ ap (λ y. whole / 2 ^ y) e)
        ∙ word_of 64 n w clean ws (i / 64 + 1) (omega (arith, length-held ws n w)) ∙ ap (λ y. y % 2 ^ 64) (sym u-is) ∙ mod-eq_of_lt u-fits in
        read 64 q ∙ ap (λ y. y % 2 ^ m) (two_words from v first s (64 - s) (omega arith) u second ∙ sym x-is)

-- the answer from such a number, whose other bits are masked
pub masked : (xs : List Bool) (i m x : ℕ) → Reads xs i m x → i + m ≤ length xs → m ≤ 64 → (mask : ℕ) → mask ≡ 2 ^ m - 1 → Ok (bit_and x mask) ≡ range_bits xs i m
masked xs i m x r inside l mask e =
    rw (le-leb m 64 l, le-leb (i + m) (length xs) inside)
    (ap Ok (ap (bit_and x) e ∙ and_mask x m ∙ sym r))

-- the word that the column below answers at a place, or else the tail
pub word_found : (ws : List ℕ) (w k : ℕ) → result_unwrap_or (element ws k) w ≡ get_or ws k w
word_found [] w k = refl
word_found (v ∷ ws) w zero = refl
word_found (v ∷ ws) w (suc k) = word_found ws w k

-- the element at a place, from the bit that is read there
bit_back : (x : Bool) → eqb (bit x + 0) 1 ≡ x
bit_back true = refl
bit_back false = refl

module _ (xs : List Bool) (i : ℕ) where
  bit_there : i < length xs → range_bits xs i 1 ≡ Ok (bit (get_or xs i false) + 0)
  bit_there l = rw (le-leb (i + 1) (length xs) (omega arith), drop-cons xs i false l)

  bit_past : length xs ≤ i → range_bits xs i 1 ≡ Err (refuse OutOfRange 0)
  bit_past l = rw (lt-leb (i + 1) (length xs) (omega arith))

  pub bit_found : (v : ℕ) → Ok v ≡ range_bits xs i 1 → Ok (eqb v 1) ≡ element xs i
  bit_found v e = ⊎_elim
      (λ (l : i < length xs).
      let q : v ≡ bit (get_or xs i false) + 0 = cc (e, bit_there l) in
      ap (λ x. Ok (eqb x 1)) q ∙ ap Ok (bit_back (get_or xs i false)) ∙ sym (element_at_lem xs i false l))
      (λ (l : length xs ≤ i). let z : ◌≡◌ {A = ℕ} 0 1 = cc (e, bit_past l) in absurd (omega arith))
      (cases_lt i (length xs))

  pub bit_refused : (f : Fault) → Err f ≡ range_bits xs i 1 → Err f ≡ element xs i
  bit_refused f e = ⊎_elim
      (λ (l : i < length xs). let z : ◌≡◌ {A = ℕ} 0 1 = cc (e, bit_there l) in absurd (omega arith))
      (λ (l : length xs ≤ i). let q : f ≡ refuse OutOfRange 0 = cc (e, bit_past l) in ap Err q ∙ sym (element_past xs i l))
      (cases_lt i (length xs))
