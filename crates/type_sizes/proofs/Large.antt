-- What is told up to a bound tells whether a limit is passed.
use Rattle.std.proofs.Common.{◌≡◌, List, ℕ, suc, ◌≤◌, Bool, true, false, ◌||◌, nat_lt, length, refl, sym, ap, ap₂, ◌∙◌, arith, ltb-true}
use Rattle.std.proofs.lemmas.Bool.{lt-ltb, ltb-false, false_from_ne_true}
use Rattle.mir_syntax.specs.declared.program.Program.{Program}
use Rattle.mir_syntax.specs.Tree.{Tree}
use Rattle.mir_syntax.specs.Crate.{crate_of}
use Rattle.mir_syntax.specs.Shapes.{Shape, shapes_of}
use Rattle.mir_rules.specs.Weights.{inside_by, inside_def}
use Rattle.mir_rules.specs.Limits.{is_large_type}
use Rattle.drop_tables.proofs.Destroying.{shapes_count}
use Rattle.type_sizes.specs.UpTo.{Tells}
use Rattle.type_sizes.specs.declared.measure.Measure.TheVariants.{Nodes, Units, Inside}
use Rattle.type_sizes.specs.Measures.{size_by, level}
use Rattle.type_sizes.proofs.Weighing.{nodes_are, units_are, inside_are}

pub above : (limit told n : ℕ) → Tells (suc limit) told n → nat_lt limit told ≡ nat_lt limit n
above limit told n t = go (nat_lt limit told) refl
  where
    go : (b : Bool) → nat_lt limit told ≡ b → b ≡ nat_lt limit n
    go true e =
        let a = ltb-true limit told e in
        let b = t.below in
        sym (lt-ltb limit n (omega (arith, a, b)))
    go false e = sym (false_from_ne_true (nat_lt limit n) (λ h.
        let a = ltb-true limit n h in
        let small : told ≤ limit = ltb-false limit told e in
        let b = t.exact (omega (arith, small)) in
        absurd (omega (arith, a, b, small))))

module _ (p : Program) where
  abbrev D : List Shape
  D = shapes_of (crate_of p)

  pub large : (t : Tree) (told_nodes told_units : ℕ) → Tells 1025 told_nodes (size_by D Nodes (level D Nodes (length p.defs)) t) → Tells 17 told_units (size_by D Units (level D Units (length p.defs)) t)
      → (nat_lt 1024 (size_by D Nodes (level D Nodes (length p.defs)) t) || nat_lt 16 (size_by D Units (level D Units (length p.defs)) t)) ≡ is_large_type D t
  unfolding is_large_type
  large t a b n u =
      let count = shapes_count p in
      ap₂ (λ x y. nat_lt 1024 x || nat_lt 16 y) (ap (λ k. size_by D Nodes (level D Nodes k) t) (sym count) ∙ nodes_are D t) (ap (λ k. size_by D Units (level D Units k) t) (sym count) ∙ units_are D t)

  pub inside : (t : Tree) → size_by D Inside (level D Inside (length p.defs)) t ≡ inside_by D (inside_def D (length D)) t
  inside t = ap (λ k. size_by D Inside (level D Inside k) t) (sym (shapes_count p)) ∙ inside_are D t
