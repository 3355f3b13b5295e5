-- The flow of a status rises over the lattice of rows: proofs alone, of the law that `solve` asks for.
use Rattle.std.proofs.Common.{◌≡◌, refl, ℕ, zero, suc, ◌<◌, Bool, true, false, nat_eq, if◌then◌else◌, List, [], ◌∷◌, length, Option, Some, None, slice_get, arith}
use Rattle.std.proofs.lemmas.List.{length-replicate}
use Rattle.bit_rows.specs.Rows.{row_at, HasSize}
use Rattle.flow_engine.specs.declared.edges.Edge.{Edge}
use Rattle.flow_engine.specs.Flow.{Lawful}
use Rattle.liveness.specs.Rows.{blank}
use Rattle.liveness.specs.Facts as live
use Rattle.liveness.specs.Facts.{IsBelow, count_ones, joined}
use Rattle.liveness.specs.Lattice.{Fact, single, row_long, live_lawful}
use Rattle.move_paths.specs.Facts.{IsSized, begun, along, sent}

module _ (blocks bits : ℕ) (edges : List Edge) (first gens kills : Fact) (s : IsSized blocks bits edges first gens kills) where
  -- the edge back, along which facts of live locals flow alike
  back : Edge → Edge
  back e = record { from = e.to; to = e.from }

  -- the lattice of rows, and one edge
  lattice : (es : List Edge) → ((i : ℕ) (e : Edge) → slice_get es i ≡ Some e → e.to < blocks) → Lawful (λ x. HasSize x 1 bits) (IsBelow bits) count_ones bits (live.begun blocks bits gens) joined (live.sent bits es gens kills)
  lattice es ends = live_lawful blocks bits es gens kills (record { ends = ends; gens_size = s.gens_size; kills_size = s.kills_size })

  base : Lawful (λ x. HasSize x 1 bits) (IsBelow bits) count_ones bits (live.begun blocks bits gens) joined (live.sent bits [] gens kills)
  base = lattice [] (λ i e q. absurd (grind arith))

  one_edge : (e : Edge) → e.from < blocks → Lawful (λ x. HasSize x 1 bits) (IsBelow bits) count_ones bits (live.begun blocks bits gens) joined (live.sent bits (record { from = e.to; to = e.from } ∷ []) gens kills)
  one_edge e l = lattice (record { from = e.to; to = e.from } ∷ []) ends
    where
      ends : (i : ℕ) (d : Edge) → slice_get (record { from = e.to; to = e.from } ∷ []) i ≡ Some d → d.to < blocks
      ends zero d q = (let same : d.to ≡ e.from = grind arith in omega arith)
      ends (suc i) d q = absurd (grind arith)

  begun_ok : (b : ℕ) → HasSize (begun bits first b) 1 bits
  begun_ok b = single bits (if nat_eq b 0 then row_at first 0 else blank bits) (long (nat_eq b 0))
    where
      long : (c : Bool) → length (if c then row_at first 0 else blank bits) ≡ bits
      long true = row_long bits first s.first_size
      long false = length-replicate bits false

  along_ok : (x : Fact) → HasSize x 1 bits → (o : Option Edge) → ((e : Edge) → o ≡ Some e → e.from < blocks) → HasSize (along bits gens kills x o) 1 bits
  along_ok x ok None h = single bits (blank bits) (length-replicate bits false)
  along_ok x ok (Some e) h = (one_edge e (h e refl)).flow_ok 0 x ok

  along_below : (x y : Fact) → HasSize x 1 bits → HasSize y 1 bits → IsBelow bits x y → (o : Option Edge) → ((e : Edge) → o ≡ Some e → e.from < blocks) → IsBelow bits (along bits gens kills x o) (along bits gens kills y o)
  along_below x y okx oky le None h = base.flow_below 0 x y okx oky le
  along_below x y okx oky le (Some e) h = (one_edge e (h e refl)).flow_below 0 x y okx oky le

  pub status_lawful : Lawful (λ x. HasSize x 1 bits) (IsBelow bits) count_ones bits (begun bits first) joined (sent bits edges gens kills)
  status_lawful = record {
    same = base.same;
    then_below = base.then_below;
    join_ok = base.join_ok;
    left = base.left;
    right = base.right;
    least = base.least;
    rank_below = base.rank_below;
    rank_same = base.rank_same;
    rank_high = base.rank_high;
    start_ok = begun_ok;
    flow_ok = λ i x ok. along_ok x ok (slice_get edges i) (λ e q. s.starts i e q);
    flow_below = λ i x y ok ok2 le. along_below x y ok ok2 le (slice_get edges i) (λ e q. s.starts i e q);
  }
