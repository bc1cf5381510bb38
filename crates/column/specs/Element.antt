-- Element types that match byte strings of one nonzero size, one to one.
use Rattle.std.specs.Prelude.{◌≡◌, ℕ, ◌<◌, Bool, true, List, length}
use Rattle.std.specs.List.{AllByRecursion}
use Rattle.area.specs.Digits.{number, digits}

pub record Codec (E : Type 0) : Type 0 where
  pub size : ℕ
  pub bytes : E → List ℕ
  pub value : List ℕ → E

abbrev pub Bytes : List ℕ → Type 0
Bytes = AllByRecursion (λ b. b < 256)

pub record OneToOne {E : Type 0} (fits : E → Bool) (C : Codec E) : Type 0 where
  pub positive : 0 < C.size
  pub string : (x : E) → fits x ≡ true → (length (C.bytes x) ≡ C.size) × Bytes (C.bytes x)
  pub back : (x : E) → fits x ≡ true → C.value (C.bytes x) ≡ x
  pub forth : (bs : List ℕ) → length bs ≡ C.size → Bytes bs → (C.bytes (C.value bs) ≡ bs) × (fits (C.value bs) ≡ true)

-- the unsigned numbers of n bytes, the lowest byte first
abbrev pub unsigned : ℕ → Codec ℕ
unsigned n = record { size = n; bytes = digits 256 n; value = number 256 }
