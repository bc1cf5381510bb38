-- What a form stands for is accepted, and so the slices that it gives are well formed.
use Rattle.std.specs.Prelude.{◌≡◌, ℕ, Bool, true, List, [], refl}
use Rattle.std.specs.List.{AllByRecursion}
use Rattle.std.proofs.Math.Logic.{∥∥₁_elim}
use Rattle.area.specs.Slice.{Slice, WellFormed}
use Rattle.column.specs.Kind.{Accepted, Format, Laws, Reading, reads, refuses}
use Rattle.read.specs.Form.{Passed, Passed-prop, Stands, Stands-prop, is_read, list_of}

of_read : {E : Type 0} (r : Reading E) → is_read r ≡ true → r ≡ reads (elim r [ reads xs ↦ xs | refuses k ↦ [] ])
of_read (reads xs) h = refl
of_read (refuses k) h = cc

pub passed-accepted : {E : Type 0} {F : Format E} {ss : List Slice} → Passed F ss → Accepted F ss (list_of F ss)
passed-accepted {F} {ss} p = record { count = p.count; formed = p.formed; fitting = p.fitting; reading = of_read (F.reading ss) p.read }

module _ {E Form : Type 0} {slices : Form → List ℕ → List Slice} {kept : Form → List ℕ → Type 0} where
  pub accepted : {F : Format E} {t : Form} {ws : List ℕ} → Stands slices kept F t ws → Accepted F (slices t ws) (list_of F (slices t ws))
  accepted h = passed-accepted h.passed

  -- of a form that a type says of that it stands: its slices, and all where any two proofs of what is kept are equal
  pub passed : {F : Format E} {t : Form} {ws : List ℕ} → ∥ Stands slices kept F t ws ∥₁ → Passed F (slices t ws)
  passed {F} {t} {ws} h = ∥∥₁_elim h (Passed-prop F (slices t ws)) (λ s. s.passed)

  pub stood : ((t : Form) (ws : List ℕ) → IsProp (kept t ws)) → {F : Format E} {t : Form} {ws : List ℕ} → ∥ Stands slices kept F t ws ∥₁ → Stands slices kept F t ws
  stood once {F} {t} {ws} h = ∥∥₁_elim h (Stands-prop slices kept once F t ws) (λ s. s)

pub given_formed : {E : Type 0} {fits : E → Bool} {F : Format E} {ss : List Slice} → Laws fits F → Passed F ss → AllByRecursion WellFormed (F.giving ss)
given_formed {F} {ss} laws p = (laws.given ss (list_of F ss) (passed-accepted p)).0.formed
