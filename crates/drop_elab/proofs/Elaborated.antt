-- The rows that the tests make tell what paths leave of the units, so the function and the relation are one.
use Rattle.std.proofs.Common.{◌≡◌, ◌↔◌, refl, sym, ap, ◌∙◌, subst, ℕ, ◌+◌, ◌<◌, Bool, true, false, not, List, [], map, length, Some, slice_get, get_or, arith}
use Rattle.std.proofs.lemmas.List.{length-map, get_or-map}
use Rattle.std.proofs.lemmas.List.FromFn.{length-map-range_with_len, get_or-map-range_with_len}
use Rattle.std.proofs.lemmas.Option.{slice_get_within, get_or_from_slice_get}
use Rattle.bit_rows.specs.Rows.{row_at, flag, HasSize}
use Rattle.mir_syntax.specs.declared.body.Place.{Place}
use Rattle.mir_syntax.specs.Crate.{TypedBody}
use Rattle.mir_syntax.specs.Shapes.{Shape}
use Rattle.move_paths.specs.Effects.{units_of_body}
use Rattle.move_paths.specs.Decided.{comes}
use Rattle.move_paths.proofs.Decided.{comes_told, told_comes}
use Rattle.drop_elab.specs.Elab.{IsInits, IsElab}
use Rattle.drop_elab.specs.Elaborated.{rows_by, inits_of, elaborated}
use Rattle.drop_elab.proofs.OneResult.{one_elab}

module _ (us : List Place) (n : ℕ) (test : ℕ → Place → Bool) where
  row_is : (i : ℕ) → i < n → row_at (rows_by us n test) i ≡ map (test i) us
  row_is i l = get_or-map-range_with_len (λ i. map (test i) us) 0 n i i [] l (let z : 0 + i ≡ i = omega arith in z)

  size_is : HasSize (rows_by us n test) n (length us)
  size_is = record {
    count_is = length-map-range_with_len (λ i. map (test i) us) 0 n;
    bits_is = λ i l. ap length (row_is i l) ∙ length-map us (test i);
  }

  flag_is : (i k : ℕ) (u : Place) → i < n → slice_get us k ≡ Some u → flag (rows_by us n test) i k ≡ test i u
  flag_is i k u l e = ap (λ row. get_or row k false) (row_is i l) ∙ get_or-map (test i) us k u false (slice_get_within us k u e) ∙ ap (test i) (get_or_from_slice_get us k u u e)

none_true : (c : Bool) → not c ≡ true → c ≡ true → ⊥
none_true true h k = absurd (cc)
none_true false h k = absurd (cc)

not_of : (c : Bool) → (c ≡ true → ⊥) → not c ≡ true
not_of true h = absurd (h refl)
not_of false h = refl

module _ (D : List Shape) (b : TypedBody) where
  abbrev us : List Place
  us = units_of_body D b

  are_inits : IsInits D b (inits_of D b)
  are_inits = record {
    maybe_size = size_is us (length b.blocks) (λ i u. comes b u i true);
    sure_size = size_is us (length b.blocks) (λ i u. not (comes b u i false));
    maybe = λ i k u l e.
        (let is = flag_is us (length b.blocks) (λ i u. comes b u i true) i k u l e in
        (λ h. told_comes b u i true (sym is ∙ h), λ c. is ∙ comes_told b u i true l c));
    sure = λ i k u l e.
        (let is = flag_is us (length b.blocks) (λ i u. not (comes b u i false)) i k u l e in
        (λ h c. none_true (comes b u i false) (sym is ∙ h) (comes_told b u i false l c), λ s. is ∙ not_of (comes b u i false) (λ h. s (told_comes b u i false h))));
  }

  pub is_elab : IsElab D b (elaborated D b)
  unfolding elaborated
  is_elab = record { inits = inits_of D b; are_inits = are_inits; is = refl }

  pub elaborated_is : (e : TypedBody) → IsElab D b e ↔ e ≡ elaborated D b
  elaborated_is e = (λ h. one_elab D b e (elaborated D b) h is_elab, λ q. subst (IsElab D b) (sym q) is_elab)
