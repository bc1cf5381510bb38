-- Elements that fit by place fit all; joined bytes are words, and so is what a window leaves of words.
use Rattle.std.proofs.Common.{ℕ, ◌/◌, ◌^◌, ◌<◌, List, length, take, drop, lit<}
use Rattle.std.specs.Prelude.{slice_index}
use Rattle.std.specs.List.{AllByRecursion}
use Rattle.std.proofs.ByRecursion.{All-from_get_or, All-take, All-drop}
use Rattle.area.proofs.DigitLemmas.{chunks_under}
use Rattle.storage.specs.Store.{join_words}

pub all_fit : (xs : List ℕ) (b : ℕ) → ((i : ℕ) → slice_index xs i < b) → AllByRecursion (λ x. x < b) xs
all_fit xs b h = All-from_get_or (λ x. x < b) xs 0 (λ i _. h i)

pub joined_whole : (bs : List ℕ) → ((i : ℕ) → slice_index bs i < 256) → AllByRecursion (λ w. w < 2 ^ 64) (join_words bs)
joined_whole bs h = chunks_under 256 8 (length bs / 8) bs (lit< tt) (all_fit bs 256 h)

pub window_whole : (a n : ℕ) (ws : List ℕ) → AllByRecursion (λ w. w < 2 ^ 64) ws → AllByRecursion (λ w. w < 2 ^ 64) (take n (drop a ws))
window_whole a n ws h = All-take (λ w. w < 2 ^ 64) n (drop a ws) (All-drop (λ w. w < 2 ^ 64) a ws h)
