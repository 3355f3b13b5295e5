-- Numbers that are counted up to a bound, against the limit on a body.
use Rattle.std.proofs.Common.{◌≡◌, ℕ, ◌+◌, ◌*◌, ◌<◌, ◌≤◌, true, false, ◌&&◌, nat_lt, List, [], ◌∷◌, map, length, sum_by, refl, arith}
use Rattle.std.specs.List.{list_all}
use Rattle.mir_syntax.specs.declared.body.Place.{Place}
use Rattle.mir_syntax.specs.declared.body.Term.TheVariants as term
use Rattle.mir_syntax.specs.Crate.{TypedBlock, TypedBody, Crate, block_of}
use Rattle.mir_syntax.specs.Tree.{Tree}
use Rattle.mir_syntax.specs.declared.body.Block.{Block}
use Rattle.type_sizes.proofs.Sums.{Summing}
use Rattle.mir_syntax.specs.Parts.{term_places, targets, path_formed}
use Rattle.mir_rules.specs.Formed.{place_formed, block_there, term_formed, block_formed, type_formed, has_start, body_formed}
use Rattle.mir_rules.proofs.Lists.{and_true-left, and_true-right}
use Rattle.std.proofs.lemmas.Bool.{lt-ltb, le-ltb}
use Rattle.type_sizes.specs.UpTo.{Tells}

pub past_by_parts : (parts calls n : ℕ) → 10000 < parts → true ≡ nat_lt 10000 (parts + calls + 4 * n)
past_by_parts parts calls n h = rw (lt-ltb 10000 (parts + calls + 4 * n) (omega arith)) refl

pub past_by_weight : (parts calls weight n : ℕ) → Tells 10001 weight n → 10000 < parts + calls + 4 * weight → true ≡ nat_lt 10000 (parts + calls + 4 * n)
past_by_weight parts calls weight n t h =
    let below = t.below in
    rw (lt-ltb 10000 (parts + calls + 4 * n) (omega arith)) refl

pub not_past : (parts calls weight n : ℕ) → Tells 10001 weight n → parts + calls + 4 * weight ≤ 10000 → false ≡ nat_lt 10000 (parts + calls + 4 * n)
not_past parts calls weight n t h =
    let exact : n ≤ weight = t.exact (omega arith) in
    rw (le-ltb 10000 (parts + calls + 4 * n) (omega arith)) refl

-- what a formed terminator drops is a place in which each downcast is followed by a field
pub drop_whole : (C : Crate) (b : TypedBody) (p : Place) (next : ℕ) → term_formed C b (term.Drop p next) ≡ true → path_formed p.proj ≡ true
unfolding term_formed
drop_whole C b p next h =
    let t = term.Drop p next in
    let there = list_all (block_there b) (targets t) in
    let places = and_true-left (list_all (place_formed b) (term_places t)) there h in
    and_true-right (nat_lt p.local (length b.locals)) (path_formed p.proj) (and_true-left (place_formed b p) true places)

pub formed_blocks : (C : Crate) (b : TypedBody) → body_formed C b ≡ true → list_all (block_formed C b) b.blocks ≡ true
unfolding body_formed
formed_blocks C b h =
    let types = list_all (type_formed C) b.locals in
    let blocks = list_all (block_formed C b) b.blocks in
    and_true-right types blocks (and_true-right (has_start b) (types && blocks) h)

-- nothing is left
pub none_left : (weight : TypedBlock → ℕ) (trees : List Tree) (total all : ℕ) (rest : List Block) → length rest < 1 → Summing 10001 total (sum_by weight (map (block_of trees) rest)) all → Tells 10001 total all
none_left weight trees total all [] h s = record {
  bounded = s.bounded;
  below = let a = s.below in omega arith;
  exact = λ g. let a = s.exact g in omega arith;
}
none_left weight trees total all (x ∷ rest) h s = absurd (omega arith)
