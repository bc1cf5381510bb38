-- A pair: tuples, as the slices of the firsts and then those of the seconds.
use Rattle.std.specs.Prelude.{ℕ, ◌+◌, Bool, false, cond, ◌&&◌, List, [], ◌++◌, map, length, take, drop, zip, ◌==◌}
use Rattle.area.specs.Slice.{Slice}
use Rattle.column.specs.Column.{Areas, none, cells, beside}
use Rattle.column.specs.Kind.{Format, first_refused, further, after, reading_within}

abbrev pub firsts : {A B : Type 0} → List (A × B) → List A
firsts = map (λ p. p.0)

abbrev pub seconds : {A B : Type 0} → List (A × B) → List B
seconds = map (λ p. p.1)

abbrev pub pair_format : {A B : Type 0} → Format A → Format B → Format (A × B)
pair_format A B = record {
  slots = A.slots + B.slots;
  writing = λ xs. A.writing (firsts xs) ++ B.writing (seconds xs);
  sized = λ ss. first_refused (A.sized (take A.slots ss)) (further A.slots (B.sized (drop A.slots ss)));
  reading = λ ss. after 0 (A.reading (take A.slots ss)) (λ ls.
      after A.slots (B.reading (drop A.slots ss)) (λ rs.
      reading_within (length ls == length rs) (zip ls rs)));
  giving = λ ss. A.giving (take A.slots ss) ++ B.giving (drop A.slots ss);
}

-- a pair takes what both sides take
abbrev pub pair_takes : {A B : Type 0} → (Areas → List A → A → Bool) → (Areas → List B → B → Bool) → Areas → List (A × B) → A × B → Bool
pair_takes f g none xs x = false
pair_takes f g (cells n) xs x = false
pair_takes f g (beside a b) xs x = f a (firsts xs) x.0 && g b (seconds xs) x.1

-- what is seen of a pair whose sides hold m and n elements. They always hold as many; of uneven ones nothing would be seen, so
-- that the laws ask no premise
abbrev pub even_count : ℕ → ℕ → ℕ
even_count m n = cond (m == n) m 0

abbrev pub even_list : {A B : Type 0} → ℕ → ℕ → List A → List B → List (A × B)
even_list m n ls rs = cond (m == n) (zip ls rs) []

abbrev pub even_slices : {A B : Type 0} → Format A → Format B → ℕ → ℕ → List Slice → List Slice → List Slice
even_slices F G m n us vs = cond (m == n) (us ++ vs) ((pair_format F G).writing [])
