use Rattle.mir_text.specs.GrammarPlaces.{place_put}
use Rattle.mir_text.specs.Nesting.{PlaceGood}
use Rattle.mir_tree.specs.Bodies.{place_rule}
use Rattle.mir_parse.specs.Promises.{Any}
use Rattle.mir_parse.specs.Places.{place_at}
use Rattle.mir_parse.proofs.PlacesRead.{place_text, place-back, place-complete, place-sound}
use Rattle.mir_parse.proofs.Laws.{derives, refuses}
use Rattle.mir_parse.proofs.place.parse_place.Goals as goal

pub returns-clause-derives : goal.returns-clause-derives
returns-clause-derives c =
    let d = c.args.depth in
    derives place_put place_text place_rule (PlaceGood d) place-back (place_at d) (place-sound d) (λ f. (f.0, f.1.now)) c.args.symbols.now c.read_place.result c.read_place.ensures.read

pub returns-clause-refuses : goal.returns-clause-refuses
returns-clause-refuses c =
    let d = c.args.depth in
    refuses place_put place_text (PlaceGood d) Any (place_at d) (λ q rest good follows. place-complete q d rest good.0 good.1) (λ f. (f.0, f.1.now)) c.args.symbols.now c.read_place.result c.read_place.ensures.read
