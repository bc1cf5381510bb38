-- The word at a place of a list, of joined bytes and of a window.
use Rattle.std.proofs.Common.{◌≡◌, ℕ, zero, suc, ◌+◌, ◌-◌, ◌*◌, ◌/◌, ◌<◌, ◌≤◌, min, List, [], ◌∷◌, length, get_or, take, drop, Some, None, sym, ◌∙◌, arith, length-drop, length-take, get_or-drop, get_or-take}
use lib.ListN.{length-map}
use Rattle.std.proofs.lemmas.List.{get_or-map}
use Rattle.std.proofs.lemmas.Bool.{le-leb}
use Rattle.area.specs.Digits.{number, chunks}
use Rattle.area.specs.Slice.{join_at}
use Rattle.area.proofs.DigitLemmas.{length-chunks, get_or-chunks}
use Rattle.std.specs.List.{slice_get}
use Rattle.std.proofs.lemmas.Option.{get_or_from_slice_get, slice_get-get_or, slice_get_within}
use Rattle.storage.specs.Store.{join_words}

-- a word that was found, and one that was not
pub slice_get_found : (ws : List ℕ) (i w : ℕ) → Some w ≡ slice_get ws i → (i < length ws) × (get_or ws i 0 ≡ w)
slice_get_found ws i w h = (slice_get_within ws i w (sym h), get_or_from_slice_get ws i w 0 (sym h))

pub slice_get_missing : (ws : List ℕ) (i : ℕ) → None ≡ slice_get ws i → length ws ≤ i
slice_get_missing [] i h = omega arith
slice_get_missing (v ∷ ws) zero h = let z : ◌≡◌ {A = ℕ} 0 1 = cc in absurd (omega arith)
slice_get_missing (v ∷ ws) (suc i) h = omega (arith, slice_get_missing ws i h)

pub length-join_words : (bs : List ℕ) → length (join_words bs) ≡ length bs / 8
length-join_words bs = length-map (chunks 8 (length bs / 8) bs) (number 256) ∙ length-chunks 8 (length bs / 8) bs

pub slice_get-join_words : (bs : List ℕ) (i : ℕ) → i < length bs / 8 → join_at bs (8 * i) ≡ slice_get (join_words bs) i
slice_get-join_words bs i h =
    let room : 8 * i + 8 ≤ length bs = omega arith in
    let here : i < length (chunks 8 (length bs / 8) bs) = omega (arith, length-chunks 8 (length bs / 8) bs) in
    rw (
      slice_get-get_or (join_words bs) i 0 (omega (arith, length-join_words bs)),
      get_or-map (number 256) (chunks 8 (length bs / 8) bs) i [] 0 here,
      get_or-chunks 8 (length bs / 8) bs i h,
      le-leb (8 * i + 8) (length bs) room,
    )

module _ (ws : List ℕ) (a n : ℕ) where
  pub length_window : length (take n (drop a ws)) ≡ min n (length ws - a)
  length_window = rw (length-take, length-drop)

  pub slice_get_window : (i : ℕ) → i < n → a + i < length ws → slice_get (take n (drop a ws)) i ≡ slice_get ws (a + i)
  slice_get_window i h l =
      rw (
        slice_get-get_or (take n (drop a ws)) i 0 (omega (arith, length_window)),
        slice_get-get_or ws (a + i) 0 l,
        get_or-take,
        get_or-drop,
      )
