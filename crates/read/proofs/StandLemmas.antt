-- A form of accepted slices stands for the list that they read as.
use Rattle.std.proofs.Common.{◌≡◌, ℕ, List, refl, subst}
use Rattle.area.specs.Slice.{Slice}
use Rattle.column.specs.Kind.{Accepted, Format}
use Rattle.read.proofs.FormLemmas.{reads_list}
use Rattle.read.specs.Form.{Stands, list_of}

module _ {E Form : Type 0} (slices : Form → List ℕ → List Slice) (kept : Form → List ℕ → Type 0) where
  -- a form of accepted slices ss
  pub stands : (F : Format E) (t : Form) (ws : List ℕ) (ss : List Slice) (xs : List E) → kept t ws → ss ≡ slices t ws → Accepted F ss xs → Stands slices kept F t ws × (list_of F (slices t ws) ≡ xs)
  stands F t ws ss xs k e a =
      let b : Accepted F (slices t ws) xs = subst (λ (rs : List Slice). Accepted F rs xs) e a in (
        record { keeps = k; passed = record { count = b.count; formed = b.formed; fitting = b.fitting; read = rw b.reading refl } },
        reads_list F (slices t ws) xs b.reading,
      )
