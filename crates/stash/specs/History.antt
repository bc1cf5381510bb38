-- Tables, the calls that may change one, what each is answered and leaves, and the list that a history of calls records.
use Rattle.std.specs.Prelude.{◌≡◌, ℕ, ◌^◌, ◌<◌, Bool, cond, List, [], ◌∷◌, ◌++◌, length, take, Ok, Err, Result, ◌==◌}
use Rattle.std.specs.List.{between, AllByRecursion}
use Rattle.area.specs.Fault.{number_of, refuse}
use Rattle.area.specs.declared.fault.Fault.{Fault}
use Rattle.area.specs.declared.fault.Refusal.TheVariants.{NotTaken, NotTyped}
use Rattle.column.specs.Column.{Areas, append_answer, push_answer, pushed, range_answer, range_appended, taken}
use Rattle.column.specs.Kind.{Format, Held}
use Rattle.decode.specs.Decode.{slices_of}
use Rattle.indexed.specs.Image.{image}
use Rattle.read.specs.Admission.{admission}

-- a table: a column by its areas and its list, or a stored image by its words
pub data Table (E : Type 0) : Type 0 where
  typed : Areas → List E → Table E
  bytes : List ℕ → Table E
  align : List ℕ → Table E

-- A call that may change a table. A source of an append is known by its list, a ready column by its areas, a store by its
-- words. Writing and the lengths change no table.
pub data Call (E : Type 0) : Type 0 where
  push : E → Call E
  append : List E → ℕ → ℕ → Call E
  clear : Call E
  typed_answer : Areas → Call E
  store_bytes : List ℕ → Call E
  store_aligned : List ℕ → Call E

-- f of a Typed table, else x
abbrev pub on_typed : {E X : Type 0} → Table E → X → (Areas → List E → X) → X
on_typed (typed a xs) x f = f a xs
on_typed (bytes ws) x f = x
on_typed (align ws) x f = x

-- x of an Align table, else y
abbrev pub on_aligned : {E X : Type 0} → Table E → X → X → X
on_aligned (typed a xs) x y = y
on_aligned (bytes ws) x y = y
on_aligned (align ws) x y = x

-- the answer to what was admitted or not, and a choice by it
abbrev pub passed : {X : Type 0} → Result X Fault → Result (Unit {0}) Fault
passed (Ok x) = Ok tt
passed (Err f) = Err f

abbrev pub if_ok : {X Y : Type 0} → Result X Fault → Y → Y → Y
if_ok (Ok x) y z = y
if_ok (Err f) y z = z

-- tables of a kind F
module _ {E : Type 0} (F : Format E) where
  -- the list that words are admitted with
  abbrev pub reads : List ℕ → List E
  reads ws = elim (admission F ws) [ Ok xs ↦ xs | Err f ↦ [] ]

  -- the list of a table
  abbrev pub holds : Table E → List E
  holds (typed a xs) = xs
  holds (bytes ws) = reads ws
  holds (align ws) = reads ws

  -- What the first step of a reload writes, and that of `make_aligned`.
  abbrev pub written : Table E → List ℕ
  written (typed a xs) = image (F.writing xs)
  written (bytes ws) = ws
  written (align ws) = ws

  abbrev pub encoded : Table E → List ℕ
  encoded (typed a xs) = image (F.writing xs)
  encoded (bytes ws) = image (F.giving (slices_of ws))
  encoded (align ws) = ws

  -- a reload and `make_aligned` go in two steps with nothing between: the second is given what the first wrote
  abbrev pub Undisturbed : Table E → Call E → Type 0
  Undisturbed T (push x) = Unit
  Undisturbed T (append ys i j) = Unit
  Undisturbed T clear = Unit
  Undisturbed T (typed_answer b) = Unit
  Undisturbed T (store_bytes ws) = ws ≡ written T
  Undisturbed T (store_aligned ws) = ws ≡ encoded T

-- whether a column with areas b takes a whole list; t says what it takes next
abbrev pub takes_all : {E : Type 0} → (Areas → List E → E → Bool) → Areas → List E → Bool
takes_all t b xs = (taken (t b) [] xs) == length xs

-- how many elements a refusal says were added
abbrev pub added : Fault → ℕ
added f = cond (number_of f.refusal == number_of NotTaken) f.place 0

-- tables of a kind F in columns that take by t
module _ {E : Type 0} (F : Format E) (t : Areas → List E → E → Bool) where
  -- What a call is answered. 13 where it acts on Typed tables only and this is none.
  abbrev pub answer : Table E → Call E → Result (Unit {0}) Fault
  answer T (push x) = on_typed T (Err (refuse NotTyped 0)) (λ a xs. push_answer (t a xs x))
  answer T (append ys i j) = on_typed T (Err (refuse NotTyped 0)) (λ a xs. range_answer (t a) xs ys i j)
  answer T clear = on_typed T (Err (refuse NotTyped 0)) (λ a xs. Ok tt)
  answer T (typed_answer b) = on_typed T (append_answer (t b) [] (holds F T)) (λ a xs. Ok tt)
  answer T (store_bytes ws) = passed (admission F ws)
  answer T (store_aligned ws) = on_aligned T (Ok tt) (passed (admission F ws))

  -- The table after a call. A refused one leaves it, but for the elements that an append added before it stopped.
  abbrev pub after : Table E → Call E → Table E
  after T (push x) = on_typed T T (λ a xs. typed a (pushed (t a xs x) xs x))
  after T (append ys i j) = on_typed T T (λ a xs. typed a (range_appended (t a) xs ys i j))
  after T clear = on_typed T T (λ a xs. typed a [])
  after T (typed_answer b) = on_typed T (cond (takes_all t b (holds F T)) (typed b (holds F T)) T) (λ a xs. T)
  after T (store_bytes ws) = if_ok (admission F ws) (bytes ws) T
  after T (store_aligned ws) = on_aligned T T (if_ok (admission F ws) (align ws) T)

  -- The list that is recorded after a call, worked out from the call and its answer alone: an accepted push puts its
  -- element at the end, an accepted append the places of its range, an append refused with 12 as many as this carries;
  -- an accepted clear empties it; everything else leaves it.
  abbrev pub recorded : Table E → List E → Call E → List E
  recorded T xs (push x) = if_ok (answer T (push x)) (xs ++ x ∷ []) xs
  recorded T xs (append ys i j) = elim (answer T (append ys i j)) [ Ok u ↦ xs ++ between i j ys | Err f ↦ xs ++ take (added f) (between i j ys) ]
  recorded T xs clear = if_ok (answer T clear) [] xs
  recorded T xs (typed_answer b) = xs
  recorded T xs (store_bytes ws) = xs
  recorded T xs (store_aligned ws) = xs

  -- A history: it begins with a fresh table or an admitted image, and each call works on what the one before left. What a
  -- table holds is a list that the kind writes, as every call's contract says. Its index is the list that it records.
  pub data History (fits : E → Bool) : Table E → List E → Type 0 where
    fresh : (a : Areas) → History fits (typed a []) []
    admitted : (ws : List ℕ) (xs : List E) → AllByRecursion (λ w. w < 2 ^ 64) ws → admission F ws ≡ Ok xs → History fits (bytes ws) xs
    next : (T : Table E) (xs : List E) (k : Call E) → History fits T xs → Undisturbed F T k → Held fits (holds F (after T k)) → History fits (after T k) (recorded T xs k)
