-- The word of eight bytes, byte by byte.
use Rattle.std.proofs.Common.{◌≡◌, ℕ, suc, ◌+◌, ◌*◌, ◌<◌, ◌≤◌, List, length, get_or, take, drop, add-zero, add-suc, arith, drop-cons}
use Rattle.area.specs.Digits.{number}

-- the digit at place i + j is the first of those from there on
from : (b n : ℕ) (ds : List ℕ) (i j : ℕ) → i + j < length ds → number b (take (suc n) (drop (i + j) ds)) ≡ get_or ds (i + j) 0 + b * number b (take n (drop (i + suc j) ds))
from b n ds i j h = rw (drop-cons ds (i + j) 0 h, add-suc)

pub eight : (ds : List ℕ) (i : ℕ) → i + 8 ≤ length ds → number 256 (take 8 (drop i ds)) ≡ get_or ds i 0 + get_or ds (i + 1) 0 * 256 + get_or ds (i + 2) 0 * 65536 + get_or ds (i + 3) 0 * 16777216 + get_or ds (i + 4) 0 * 4294967296 + get_or ds (i + 5) 0 * 1099511627776 + get_or ds (i + 6) 0 * 281474976710656 + get_or ds (i + 7) 0 * 72057594037927936
eight ds i h =
    let f0 = rw add-zero at (from 256 7 ds i 0 (omega arith)) in
    let f1 = from 256 6 ds i 1 (omega arith) in
    let f2 = from 256 5 ds i 2 (omega arith) in
    let f3 = from 256 4 ds i 3 (omega arith) in
    let f4 = from 256 3 ds i 4 (omega arith) in
    let f5 = from 256 2 ds i 5 (omega arith) in
    let f6 = from 256 1 ds i 6 (omega arith) in
    let f7 = from 256 0 ds i 7 (omega arith) in
    omega arith
