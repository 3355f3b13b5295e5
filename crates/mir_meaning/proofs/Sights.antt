-- What stands at places.
use Rattle.std.proofs.Common.{◌≡◌, IsTrue, Option, Some, None, refl, sym}
use Rattle.mir_syntax.specs.declared.body.Place.{Place}
use Rattle.mir_syntax.specs.Shapes.{whole_place_ty, ◌>>=◌}
use Rattle.mir_syntax.specs.Parts.{path_formed}
use Rattle.mir_rules.proofs.Whole.{whole_place}
use Rattle.mir_semantics.specs.Values.{Addr}
use Rattle.mir_semantics.specs.Memory.{Memory, value_at, walk}
use Rattle.mir_semantics.specs.Step.{Here, resolve, type_of, local_addr}
use Rattle.mir_meaning.specs.Sight.{Misses}
use Rattle.std.specs.Prelude.{MatchOption, IfSome}
use Rattle.mir_meaning.specs.declared.place.Spot.{Spot}
use Rattle.mir_meaning.specs.Spots.{spot_of}

-- a place whose downcasts are followed by fields is whole
pub whole_type : (h : Here) (p : Place) → IsTrue (path_formed p.proj) → whole_place_ty h.shapes h.locals p ≡ type_of h p
unfolding type_of
whole_type h p f = whole_place h.shapes h.locals p f

pub resolve_is : (h : Here) (m : Memory) (p : Place) → resolve h m p ≡ walk m (local_addr h.frame p.local) p.proj
unfolding resolve
resolve_is h m p = refl

pub lost : (h : Here) (m : Memory) (p : Place) → resolve h m p ≡ None → Misses h m p
unfolding ◌>>=◌
lost h m p e = rw e refl

pub empty_there : (h : Here) (m : Memory) (p : Place) (a : Addr) → resolve h m p ≡ Some a → None ≡ value_at m a → Misses h m p
unfolding ◌>>=◌
empty_there h m p a e g = rw e (sym g)

pub both_cases : (w : Option Addr) (o : Option Spot) → (o ≡ None → w ≡ None) → IfSome o (λ s. w ≡ Some (spot_of s)) → MatchOption o (w ≡ None) (λ s. w ≡ Some (spot_of s))
both_cases w None gone there = gone refl
both_cases w (Some s) gone there = there
