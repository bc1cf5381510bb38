-- A pair, as its two sides.
use Rattle.std.specs.Prelude.{refl}
use Rattle.std.specs.Coded.{Coded, code_by, coded×}

pub record Sides (A B : Type 0) : Type 0 where
  pub first : A
  pub second : B

-- it is stored as the tuple of its sides
abbrev pub sides_code : {A B : Type 0} → Coded A → Coded B → Coded (Sides A B)
sides_code {A} {B} a b = code_by (A × B) (coded× a b) (λ s. (s.first, s.second)) (λ p. record { first = p.0; second = p.1 }) (λ _. refl)
