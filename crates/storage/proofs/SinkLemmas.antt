-- Bytes written one after another into a list: from a place on, one more, and all.
use Rattle.std.proofs.Common.{◌≡◌, ℕ, zero, suc, ◌+◌, ◌-◌, ◌*◌, ◌/◌, ◌%◌, ◌<◌, ◌≤◌, List, [], ◌∷◌, ◌++◌, length, get_or, take, drop, set, Ok, sym, refl, ap, ◌∙◌, subst, append_assoc, append-nil, add-zero, mul-zero, zero-add, mul-suc, arith, lit<, length-set, take_all, drop-drop}
use native.Mathlib.Nat.{div-div-eq-div-mul}
use Rattle.std.specs.List.{flat_map, AllByRecursion}
use Rattle.std.proofs.ByRecursion.{All-set}
use Rattle.std.proofs.lemmas.List.{take_more, take_more_set, drop-set-lt, set-append_left, set-append_right}
use Rattle.std.proofs.lemmas.Bool.{le-leb}
use Rattle.area.specs.Digits.{number, digits}
use Rattle.area.specs.Slice.{spill}
use Rattle.area.proofs.DigitLemmas.{all_length_digits, digits_number_all, digits_under, length_digits}
use Rattle.area.proofs.JoinLemmas.{eight}
use Rattle.storage.specs.Sink.{piece_answer, taking, leaving, room_after}

-- new is old with the first i bytes of bs from place a on
pub record Written (old : List ℕ) (a : ℕ) (bs new : List ℕ) (i : ℕ) : Type 0 where
  pub front : take (a + i) new ≡ take a old ++ take i bs
  pub rest : drop (a + i) new ≡ drop (a + i) old
  pub long : length new ≡ length old

module _ (old : List ℕ) (a : ℕ) (bs : List ℕ) where
  pub written_none : Written old a bs old 0
  written_none = record { front = rw add-zero (sym (append-nil (take a old))); rest = refl; long = refl }

  pub written_more : (new : List ℕ) (i p : ℕ) → Written old a bs new i → p ≡ a + i → i < length bs → p < length old → Written old a bs (set new p (get_or bs i 0)) (i + 1)
  written_more new i p w e h l =
      let k : p < length new = omega arith in
      let m : p < a + (i + 1) = omega arith in
      let q : a + (i + 1) ≡ p + 1 = omega arith in
      record {
        front = rw (q, take_more_set new p (get_or bs i 0) k, e, w.front, append_assoc, take_more bs i 0 h);
        rest =
            drop-set-lt (a + (i + 1)) new p (get_or bs i 0) m
            ∙ rw (q, e, ← drop-drop 1 (a + i) new, ← drop-drop 1 (a + i) old) (ap (drop 1) w.rest);
        long = rw length-set w.long;
      }

-- A piece that fits, all written: the sink stands at p.
module _ (old : List ℕ) (a : ℕ) (bs new : List ℕ) (i p : ℕ) (w : Written old a bs new i) (all : i ≡ length bs) (here : p ≡ a + length bs) (fits : length bs ≤ length old - a) where
  pub taken-whole : take p new ≡ taking (length old - a) (take a old) bs
  taken-whole =
      rw (le-leb _ _ fits, here, ← all) (w.front ∙ ap (λ xs. take a old ++ xs) (take_all i bs (omega arith)))

  pub room_whole : length new - p ≡ room_after (length old - a) bs
  room_whole = rw (le-leb _ _ fits) (omega arith)

  pub beyond_whole : drop p new ≡ leaving (length old - a) (drop a old) bs
  beyond_whole = rw (le-leb _ _ fits, here, drop-drop, ← all) w.rest

pub answer-whole : {F : Type 0} (f : F) (room : ℕ) (bs : List ℕ) → length bs ≤ room → Ok tt ≡ piece_answer room bs f
answer-whole f room bs fits = rw (le-leb _ _ fits)

-- Words as bytes: one byte of one word replaced.
set_joined : {X A : Type 0} (f : X → List A) (k : ℕ) (xs : List X) (i j : ℕ) (x e : X) (b : A) → AllByRecursion (λ y. length (f y) ≡ k) xs → i < length xs → j < k → f x ≡ set (f (get_or xs i e)) j b → flat_map f (set xs i x) ≡ set (flat_map f xs) (k * i + j) b
set_joined f k [] i j x e b h l m q = absurd (omega arith)
set_joined f k (y ∷ xs) zero j x e b h l m q =
    rw (mul-zero, zero-add, q) (sym (set-append_left (f y) (flat_map f xs) j b (omega (arith, h.0))))
set_joined f k (y ∷ xs) (suc i) j x e b h l m q =
    let r : k * suc i + j - k ≡ k * i + j = omega (arith, mul-suc k i) in
    ap (λ zs. f y ++ zs) (set_joined f k xs i j x e b h.1 (omega arith) m q)
    ∙ (ap (λ n. f y ++ set (flat_map f xs) n b) (sym r) ∙ sym (set-append_right (f y) (flat_map f xs) k (k * suc i + j) b h.0 (omega (arith, mul-suc k i))))

pub spill-set : (ws : List ℕ) (i j w b : ℕ) → i < length ws → j < 8 → digits 256 8 w ≡ set (digits 256 8 (get_or ws i 0)) j b → spill (set ws i w) ≡ set (spill ws) (8 * i + j) b
spill-set ws i j w b l m q = set_joined (digits 256 8) 8 ws i j w 0 b (all_length_digits 256 8 ws) l m q

-- the bytes of a word as `to_le_bytes` gives them
pub bytes_of : (w : ℕ) → digits 256 8 w ≡ (w % 256) ∷ (w / 256 % 256) ∷ (w / 65536 % 256) ∷ (w / 16777216 % 256) ∷ (w / 4294967296 % 256) ∷ (w / 1099511627776 % 256) ∷ (w / 281474976710656 % 256) ∷ (w / 72057594037927936 % 256) ∷ []
bytes_of w = simp div-div-eq-div-mul

-- and joined again by `from_le_bytes` after one was replaced
pub byte_set : (w j b r : ℕ) (bs : List ℕ) → bs ≡ digits 256 8 w → b < 256 → r ≡ get_or (set bs j b) 0 0 + get_or (set bs j b) 1 0 * 256 + get_or (set bs j b) 2 0 * 65536 + get_or (set bs j b) 3 0 * 16777216 + get_or (set bs j b) 4 0 * 4294967296 + get_or (set bs j b) 5 0 * 1099511627776 + get_or (set bs j b) 6 0 * 281474976710656 + get_or (set bs j b) 7 0 * 72057594037927936 → digits 256 8 r ≡ set (digits 256 8 w) j b
byte_set w j b r bs e h q =
    let l : length (set bs j b) ≡ 8 = length-set bs j b ∙ (ap length e ∙ length_digits 256 8 w) in
    let under : AllByRecursion (λ d. d < 256) bs = subst (AllByRecursion (λ d. d < 256)) (sym e) (digits_under 256 8 w (lit< tt)) in
    let n : r ≡ number 256 (set bs j b) = q ∙ (sym (eight (set bs j b) 0 (omega arith)) ∙ ap (number 256) (take_all 8 (set bs j b) (omega arith))) in
    ap (digits 256 8) n ∙ (digits_number_all 256 (set bs j b) 8 (All-set (λ d. d < 256) bs j b h under) l ∙ ap (λ xs. set xs j b) e)
