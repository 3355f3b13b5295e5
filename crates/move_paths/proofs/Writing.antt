-- The bits of the units under a place are written one after another, in the span of its local.
use Rattle.std.proofs.Common.{◌≡◌, ◌⊎◌, inl, inr, refl, sym, ap, ◌∙◌, subst, ℕ, suc, ◌+◌, ◌<◌, ◌≤◌, Bool, true, false, nat_eq, nat_le, nat_lt, ◌&&◌, if◌then◌else◌, List, [], length, get_or, set, Option, Some, None, slice_get, IsTrue, arith}
use Rattle.std.proofs.lemmas.Bool.{cases_eq, cases_Bool}
use Rattle.std.proofs.lemmas.List.{length-set, get_or-set_same, get_or-set_other, set-set, set-get_or}
use Rattle.std.proofs.lemmas.Option.{slice_get_within}
use Rattle.mir_syntax.specs.declared.body.Proj.{Proj}
use Rattle.mir_syntax.specs.declared.body.Place.{Place}
use Rattle.bit_rows.specs.Rows.{row_at}
use Rattle.move_paths.specs.declared.units.Span.{Span}
use Rattle.move_paths.specs.Effects.{in_local, goes_on, is_under}
use Rattle.move_paths.specs.Rows.{in_span, written, each_unit, IsSpanned}
use Rattle.move_paths.proofs.Each.{Doing, each_is, Does}

-- of the units up to a number the bits are written, the others are as they were
pub record Writing (f : Doing) (us : List Place) (old now : List Bool) (at : ℕ) : Type 0 where
  pub long : length now ≡ length us
  pub done : (k : ℕ) (u : Place) → slice_get us k ≡ Some u → k < at → get_or now k false ≡ f u (get_or old k false)
  pub rest : (k : ℕ) (u : Place) → slice_get us k ≡ Some u → at ≤ k → get_or now k false ≡ get_or old k false

-- the same of a row of a table
pub record WritingAt (f : Doing) (us : List Place) (rows now : List (List Bool)) (r at : ℕ) : Type 0 where
  pub count : length now ≡ length rows
  pub only : now ≡ set rows r (row_at now r)
  pub row : Writing f us (row_at rows r) (row_at now r) at

module _ (us : List Place) (spans : List Span) (spanned : IsSpanned us spans) (x : ℕ) (path : List Proj) (on : Bool) where
  abbrev writes : Doing
  writes = written (in_local x path) on

  -- outside of the span no unit is under the place
  outside : (k : ℕ) (u : Place) (b : Bool) → slice_get us k ≡ Some u → in_span k (slice_get spans x) ≡ false → written (in_local x path) on u b ≡ b
  outside k u b q e = go (nat_eq x u.local) refl
    where
      go : (c : Bool) → nat_eq x u.local ≡ c → (if c && goes_on path u.proj then on else b) ≡ b
      go false h = refl
      go true h = absurd (let same : x ≡ u.local = grind arith in let t : in_span k (slice_get spans u.local) ≡ true = spanned.each k u q in let z : true ≡ false = sym t ∙ ap (λ y. in_span k (slice_get spans y)) (sym same) ∙ e in grind arith)

  before_span : (s : Span) (k : ℕ) → k < s.from → in_span k (Some s) ≡ false
  before_span s k l = (let e : nat_le s.from k ≡ false = grind arith in rw e refl)

  after_span : (s : Span) (k : ℕ) → s.to ≤ k → in_span k (Some s) ≡ false
  after_span s k l = (let e : nat_lt k s.to ≡ false = grind arith in rw e (go (nat_le s.from k)))
    where
      go : (b : Bool) → (b && false) ≡ false
      go true = refl
      go false = refl

  module _ (rows : List (List Bool)) (r : ℕ) (within : r < length rows) (long : length (row_at rows r) ≡ length us) where
    pub writing_none : slice_get spans x ≡ None → Does (written (in_local x path) on) us r rows rows
    writing_none e = sym (ap (set rows r) (sym (each_is (written (in_local x path) on) us (row_at rows r) (row_at rows r) long long (λ k u q. sym (outside k u (get_or (row_at rows r) k false) q (ap (in_span k) e))))) ∙ set-get_or rows r [])

    pub writing_begins : (s : Span) → slice_get spans x ≡ Some s → WritingAt (written (in_local x path) on) us rows rows r s.from
    writing_begins s e = record {
      count = refl;
      only = sym (set-get_or rows r []);
      row = record {
        long = long;
        done = λ k u q l. sym (outside k u (get_or (row_at rows r) k false) q (ap (in_span k) e ∙ before_span s k l));
        rest = λ k u q l. refl;
      };
    }

    pub writing_ends : (s : Span) → slice_get spans x ≡ Some s → (now : List (List Bool)) (at : ℕ) → s.to ≤ at → WritingAt (written (in_local x path) on) us rows now r at → Does (written (in_local x path) on) us r rows now
    writing_ends s e now at l w = w.only ∙ ap (set rows r) (each_is (written (in_local x path) on) us (row_at rows r) (row_at now r) long w.row.long (λ k u q. go k u q (cases_Bool (nat_lt k at))))
      where
        go : (k : ℕ) (u : Place) → slice_get us k ≡ Some u → (nat_lt k at ≡ true) ⊎ (nat_lt k at ≡ false) → get_or (row_at now r) k false ≡ written (in_local x path) on u (get_or (row_at rows r) k false)
        go k u q (inl h) = w.row.done k u q (grind arith)
        go k u q (inr h) = (let m : at ≤ k = grind arith in w.row.rest k u q m ∙ sym (outside k u (get_or (row_at rows r) k false) q (ap (in_span k) e ∙ after_span s k (omega arith))))

    module _ (now : List (List Bool)) (at : ℕ) (u : Place) (q : slice_get us at ≡ Some u) (w : WritingAt (written (in_local x path) on) us rows now r at) where
      kept : get_or (row_at now r) at false ≡ get_or (row_at rows r) at false
      kept = w.row.rest at u q (omega arith)

      pub writing_skips : is_under (in_local x path) u ≡ false → WritingAt (written (in_local x path) on) us rows now r (at + 1)
      writing_skips e = record { count = w.count; only = w.only; row = record { long = w.row.long; done = λ k v p l. go k v p l (cases_eq k at); rest = λ k v p l. w.row.rest k v p (omega arith) } }
        where
          go : (k : ℕ) (v : Place) → slice_get us k ≡ Some v → k < at + 1 → (k ≡ at) ⊎ (k ≡ at → ⊥) → get_or (row_at now r) k false ≡ written (in_local x path) on v (get_or (row_at rows r) k false)
          go k v p l (inr ne) = w.row.done k v p (omega arith)
          go k v p l (inl e2) = (let same : v ≡ u = (let z : Some v ≡ Some u = sym p ∙ ap (slice_get us) e2 ∙ q in grind arith) in w.row.rest k v p (omega arith) ∙ sym (ap (λ v. written (in_local x path) on v (get_or (row_at rows r) k false)) same ∙ ap (λ c. if c then on else get_or (row_at rows r) k false) e))

      pub writing_on : (next : List (List Bool)) → next ≡ set now r (set (row_at now r) at on) → is_under (in_local x path) u ≡ true → WritingAt (written (in_local x path) on) us rows next r (at + 1)
      writing_on next n e = record {
        count = ap length n ∙ length-set now r (set (row_at now r) at on) ∙ w.count;
        only = n ∙ ap (λ t. set t r (set (row_at now r) at on)) w.only ∙ set-set rows r (row_at now r) (set (row_at now r) at on) ∙ ap (set rows r) (sym row_is);
        row = record {
          long = ap length row_is ∙ length-set (row_at now r) at on ∙ w.row.long;
          done = λ k v p l. ap (λ row. get_or row k false) row_is ∙ go k v p l (cases_eq k at);
          rest = λ k v p l. ap (λ row. get_or row k false) row_is ∙ get_or-set_other (row_at now r) at k on false (λ z. absurd (omega arith)) ∙ w.row.rest k v p (omega arith);
        };
      }
        where
          row_is : row_at next r ≡ set (row_at now r) at on
          row_is = ap (λ t. row_at t r) n ∙ get_or-set_same now r (set (row_at now r) at on) [] (omega (arith, w.count))

          go : (k : ℕ) (v : Place) → slice_get us k ≡ Some v → k < at + 1 → (k ≡ at) ⊎ (k ≡ at → ⊥) → get_or (set (row_at now r) at on) k false ≡ written (in_local x path) on v (get_or (row_at rows r) k false)
          go k v p l (inr ne) = get_or-set_other (row_at now r) at k on false ne ∙ w.row.done k v p (omega arith)
          go k v p l (inl e2) =
              let same : v ≡ u = (let z : Some v ≡ Some u = sym p ∙ ap (slice_get us) e2 ∙ q in grind arith) in
              let low : at < length (row_at now r) = (let m = slice_get_within us at u q in omega (arith, w.row.long)) in
              ap (λ i. get_or (set (row_at now r) at on) i false) e2 ∙ get_or-set_same (row_at now r) at on false low ∙ sym (ap (λ v. written (in_local x path) on v (get_or (row_at rows r) k false)) same ∙ ap (λ c. if c then on else get_or (row_at rows r) k false) e)
