-- Slices of bytes and of words: what they hold, that they are well formed, and how many words they have.
use Rattle.std.proofs.Common.{◌≡◌, ℕ, ◌+◌, ◌-◌, ◌*◌, ◌^◌, ◌<◌, List, [], ◌∷◌, ◌++◌, length, replicate, sym, refl, ◌∙◌, add_assoc, zero-add, arith, lit<, length-take, take_at, drop_at}
use lib.ListN.{length-map}
use Rattle.std.specs.List.{AllByRecursion}
use Rattle.std.proofs.ByRecursion.{All-take}
use Rattle.std.proofs.lemmas.List.{drop_all}
use Rattle.area.specs.Digits.{number, digits, chunks}
use Rattle.area.specs.Slice.{Slice, words_for, spill, pack, of_bytes, of_words, contents, WellFormed, ZeroPadded, weight}
use Rattle.area.proofs.DigitLemmas.{all_always, all_joined, all_length_digits, all_replicate, chunks-digits, chunks_under, digits_under, joined_digits, length-chunks, length_joined}

pub length-spill : (ws : List ℕ) → length (spill ws) ≡ 8 * length ws
length-spill ws = length_joined (digits 256 8) 8 ws (all_length_digits 256 8 ws)

pub spill_under : (ws : List ℕ) → AllByRecursion (λ b. b < 256) (spill ws)
spill_under ws = all_joined (λ b. b < 256) (digits 256 8) ws (all_always (λ w. AllByRecursion (λ b. b < 256) (digits 256 8 w)) (λ w. digits_under 256 8 w (lit< tt)) ws)

-- bytes as words, and as bytes again
pub spill-pack : (bs : List ℕ) → AllByRecursion (λ b. b < 256) bs → spill (pack bs) ≡ bs ++ replicate (8 * words_for (length bs) - length bs) 0
spill-pack bs h = joined_digits 256 8 (words_for (length bs)) bs h (omega arith)

pub contents-of_bytes : (bs : List ℕ) → AllByRecursion (λ b. b < 256) bs → contents (of_bytes bs) ≡ bs
contents-of_bytes bs h = rw (spill-pack bs h) (take_at bs (replicate (8 * words_for (length bs) - length bs) 0) (length bs) refl)

pub length-pack : (bs : List ℕ) → length (pack bs) ≡ words_for (length bs)
length-pack bs = length-map (chunks 8 (words_for (length bs)) bs) (number 256) ∙ length-chunks 8 (words_for (length bs)) bs

pub of_bytes-formed : (bs : List ℕ) → AllByRecursion (λ b. b < 256) bs → WellFormed (of_bytes bs)
of_bytes-formed bs h = (chunks_under 256 8 (words_for (length bs)) bs (lit< tt) h, length-pack bs)

pub of_bytes_padded : (bs : List ℕ) → AllByRecursion (λ b. b < 256) bs → ZeroPadded (of_bytes bs)
of_bytes_padded bs h =
    rw (spill-pack bs h, drop_at bs (replicate (8 * words_for (length bs) - length bs) 0) (length bs) refl)
    (all_replicate (λ b. b ≡ 0) (8 * words_for (length bs) - length bs) 0 refl)

-- words as bytes, and as words again
pub pack-spill : (ws : List ℕ) → AllByRecursion (λ w. w < 2 ^ 64) ws → pack (spill ws) ≡ ws
pack-spill ws h =
    let n : words_for (length (spill ws)) ≡ length ws = omega (arith, length-spill ws) in
    rw n (chunks-digits 256 8 ws (lit< tt) h)

pub of_bytes-spill : (ws : List ℕ) → AllByRecursion (λ w. w < 2 ^ 64) ws → of_bytes (spill ws) ≡ of_words ws
of_bytes-spill ws h = cc (pack-spill ws h, length-spill ws)

pub of_words-formed : (ws : List ℕ) → AllByRecursion (λ w. w < 2 ^ 64) ws → WellFormed (of_words ws)
of_words-formed ws h = (h, omega arith)

pub of_words_padded : (ws : List ℕ) → ZeroPadded (of_words ws)
of_words_padded ws = rw (drop_all (8 * length ws) (spill ws) (omega (arith, length-spill ws))) tt

-- the bytes that count
pub length-contents : (s : Slice) → WellFormed s → length (contents s) ≡ s.bytes
length-contents s h = rw (length-take, length-spill) (omega arith)

pub contents_under : (s : Slice) → AllByRecursion (λ b. b < 256) (contents s)
contents_under s = All-take (λ b. b < 256) s.bytes (spill s.words) (spill_under s.words)

pub weight-append : (xs ys : List Slice) → weight (xs ++ ys) ≡ weight xs + weight ys
weight-append [] ys = sym (zero-add (weight ys))
weight-append (x ∷ xs) ys = rw (weight-append xs ys, add_assoc)
