-- A body has one elaborated body: what paths leave of its units determines the rows.
use Rattle.std.proofs.Common.{◌≡◌, ◌↔◌, refl, sym, ap, ◌∙◌, ℕ, ◌<◌, Bool, true, false, IsTrue, List, [], length, get_or, arith}
use Rattle.std.proofs.lemmas.List.{ext_get_or}
use Rattle.std.proofs.lemmas.Option.{slice_get-get_or}
use Rattle.mir_syntax.specs.declared.body.Place.{Place}
use Rattle.mir_syntax.specs.Crate.{TypedBody}
use Rattle.mir_syntax.specs.Shapes.{Shape}
use Rattle.bit_rows.specs.Rows.{row_at, flag, HasSize}
use Rattle.move_paths.specs.Effects.{units_of_body}
use Rattle.drop_elab.specs.Elab.{Inits, IsInits, elab_by, IsElab}

both_tell : {P : Type 0} (a b : Bool) → IsTrue a ↔ P → IsTrue b ↔ P → a ≡ b
both_tell true true h k = refl
both_tell false false h k = refl
both_tell true false h k = sym (k.1 (h.0 refl))
both_tell false true h k = h.1 (k.0 refl)

rows_same : (n bits : ℕ) (xs ys : List (List Bool)) → HasSize xs n bits → HasSize ys n bits → ((i k : ℕ) → i < n → k < bits → flag xs i k ≡ flag ys i k) → xs ≡ ys
rows_same n bits xs ys hx hy h = ext_get_or [] xs ys (hx.count_is ∙ sym hy.count_is) (λ i l. row i (let c = hx.count_is in omega arith))
  where
    row : (i : ℕ) → i < n → row_at xs i ≡ row_at ys i
    row i l =
        let long = hx.bits_is i l in
        ext_get_or false (row_at xs i) (row_at ys i) (long ∙ sym (hy.bits_is i l)) (λ k m. h i k l (omega (arith, long)))

module _ (D : List Shape) (b : TypedBody) where
  pub one_inits : (xs ys : Inits) → IsInits D b xs → IsInits D b ys → xs ≡ ys
  one_inits xs ys hx hy =
      let n = length b.blocks in
      let us = units_of_body D b in
      let none : Place = record { local = 0; proj = [] } in
      let maybe : xs.maybe ≡ ys.maybe = rows_same n (length us) xs.maybe ys.maybe hx.maybe_size hy.maybe_size (λ i k l m. both_tell (flag xs.maybe i k) (flag ys.maybe i k) (hx.maybe i k (get_or us k none) l (slice_get-get_or us k none m)) (hy.maybe i k (get_or us k none) l (slice_get-get_or us k none m))) in
      let sure : xs.sure ≡ ys.sure = rows_same n (length us) xs.sure ys.sure hx.sure_size hy.sure_size (λ i k l m. both_tell (flag xs.sure i k) (flag ys.sure i k) (hx.sure i k (get_or us k none) l (slice_get-get_or us k none m)) (hy.sure i k (get_or us k none) l (slice_get-get_or us k none m))) in
      rw (maybe, sure)

  pub one_elab : (x y : TypedBody) → IsElab D b x → IsElab D b y → x ≡ y
  one_elab x y hx hy = hx.is ∙ ap (elab_by D b) (one_inits hx.inits hy.inits hx.are_inits hy.are_inits) ∙ sym hy.is
