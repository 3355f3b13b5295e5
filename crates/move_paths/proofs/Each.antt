-- Rows in which something is done to the bit of each unit.
use Rattle.std.proofs.Common.{◌≡◌, refl, sym, ap, ap₂, ◌∙◌, subst, ℕ, ◌<◌, Bool, true, false, List, [], length, get_or, set, Some, slice_get, arith}
use Rattle.std.proofs.Math.Path.{fun_ext}
use Rattle.std.proofs.lemmas.List.{length-set, get_or-set_same, set-set, set-get_or, ext_get_or}
use Rattle.std.proofs.lemmas.Option.{slice_get_within, slice_get-get_or, get_or_from_slice_get}
use Rattle.std.proofs.lemmas.Simd.{length-zip2, get_or-zip2}
use lib.Lanes.{zip2}
use Rattle.mir_syntax.specs.declared.body.Place.{Place}
use Rattle.bit_rows.specs.Rows.{row_at}
use Rattle.move_paths.specs.Rows.{each_unit}

abbrev pub Doing : Type 0
Doing = Place → Bool → Bool

no_place : Place
no_place = record { local = 0; proj = [] }

pub each_long : (f : Doing) (us : List Place) (row : List Bool) → length row ≡ length us → length (each_unit f us row) ≡ length us
each_long f us row e = length-zip2 f us row (sym e)

pub each_at : (f : Doing) (us : List Place) (row : List Bool) (k : ℕ) (u : Place) → length row ≡ length us → slice_get us k ≡ Some u → get_or (each_unit f us row) k false ≡ f u (get_or row k false)
each_at f us row k u e q =
    let l = slice_get_within us k u q in
    get_or-zip2 f us row k u false false l (omega arith) ∙ ap (λ v. f v (get_or row k false)) (get_or_from_slice_get us k u u q)

-- a row in which each bit is what is made of it
pub each_is : (f : Doing) (us : List Place) (row row2 : List Bool) → length row ≡ length us → length row2 ≡ length us → ((k : ℕ) (u : Place) → slice_get us k ≡ Some u → get_or row2 k false ≡ f u (get_or row k false)) → row2 ≡ each_unit f us row
each_is f us row row2 e e2 h =
    ext_get_or false row2 (each_unit f us row) (e2 ∙ sym (each_long f us row e)) (λ k l.
    let q = slice_get-get_or us k no_place (omega arith) in
    h k (get_or us k no_place) q ∙ sym (each_at f us row k (get_or us k no_place) e q))

pub each_then : (f g : Doing) (us : List Place) (row : List Bool) → length row ≡ length us → each_unit g us (each_unit f us row) ≡ each_unit (λ u b. g u (f u b)) us row
each_then f g us row e =
    each_is (λ u b. g u (f u b)) us row (each_unit g us (each_unit f us row)) e (each_long g us (each_unit f us row) (each_long f us row e)) (λ k u q.
    each_at g us (each_unit f us row) k u (each_long f us row e) q ∙ ap (g u) (each_at f us row k u e q))

pub each_same : (f g : Doing) (us : List Place) (row : List Bool) → ((u : Place) (b : Bool) → f u b ≡ g u b) → each_unit f us row ≡ each_unit g us row
each_same f g us row h = ap (λ (f : Doing). each_unit f us row) (fun_ext (λ u. fun_ext (λ b. h u b)))

pub each_none : (us : List Place) (row : List Bool) → length row ≡ length us → each_unit (λ u b. b) us row ≡ row
each_none us row e = sym (each_is (λ u b. b) us row row e e (λ k u q. refl))

-- ---- the same in a row of a table

abbrev pub Does : Doing → List Place → ℕ → List (List Bool) → List (List Bool) → Type 0
Does f us r rows rows2 = rows2 ≡ set rows r (each_unit f us (row_at rows r))

pub does_count : (f : Doing) (us : List Place) (r : ℕ) (rows rows2 : List (List Bool)) → Does f us r rows rows2 → length rows2 ≡ length rows
does_count f us r rows rows2 d = ap length d ∙ length-set rows r (each_unit f us (row_at rows r))

pub does_row : (f : Doing) (us : List Place) (r : ℕ) (rows rows2 : List (List Bool)) → r < length rows → Does f us r rows rows2 → row_at rows2 r ≡ each_unit f us (row_at rows r)
does_row f us r rows rows2 l d = ap (λ t. row_at t r) d ∙ get_or-set_same rows r (each_unit f us (row_at rows r)) [] l

pub does_long : (f : Doing) (us : List Place) (r : ℕ) (rows rows2 : List (List Bool)) → r < length rows → length (row_at rows r) ≡ length us → Does f us r rows rows2 → length (row_at rows2 r) ≡ length us
does_long f us r rows rows2 l e d = ap length (does_row f us r rows rows2 l d) ∙ each_long f us (row_at rows r) e

pub does_then : (f g : Doing) (us : List Place) (r : ℕ) (rows rows2 rows3 : List (List Bool)) → r < length rows → length (row_at rows r) ≡ length us → Does f us r rows rows2 → Does g us r rows2 rows3 → Does (λ u b. g u (f u b)) us r rows rows3
does_then f g us r rows rows2 rows3 l e d d2 =
    d2 ∙ ap (λ row. set rows2 r (each_unit g us row)) (does_row f us r rows rows2 l d)
    ∙ ap (λ t. set t r (each_unit g us (each_unit f us (row_at rows r)))) d
    ∙ set-set rows r (each_unit f us (row_at rows r)) (each_unit g us (each_unit f us (row_at rows r)))
    ∙ ap (set rows r) (each_then f g us (row_at rows r) e)

pub does_none : (us : List Place) (r : ℕ) (rows : List (List Bool)) → length (row_at rows r) ≡ length us → Does (λ u b. b) us r rows rows
does_none us r rows e = sym (ap (set rows r) (each_none us (row_at rows r) e) ∙ set-get_or rows r [])

pub does_as : (f g : Doing) (us : List Place) (r : ℕ) (rows rows2 : List (List Bool)) → ((u : Place) (b : Bool) → f u b ≡ g u b) → Does f us r rows rows2 → Does g us r rows rows2
does_as f g us r rows rows2 h d = d ∙ ap (set rows r) (each_same f g us (row_at rows r) h)

-- where nothing is done, nothing changes
pub does_nothing : (f : Doing) (us : List Place) (r : ℕ) (rows : List (List Bool)) → length (row_at rows r) ≡ length us → ((u : Place) (b : Bool) → b ≡ f u b) → Does f us r rows rows
does_nothing f us r rows e h = does_as (λ u b. b) f us r rows rows h (does_none us r rows e)
