-- The key that holds the copy goes last.
use Rattle.mir_names.proofs.Places.{appended}
use Rattle.mir_names.proofs.names.Names.append.Goals as goal

pub returns-clause-appended : goal.returns-clause-appended
returns-clause-appended c =
    appended (λ k. k.items) c.in_ok-copy.copy c.self.inside.names.keys c.insert.new.self.keys c.args.name.now c.args.self.now
    (c.in_ok-copy.ensures.items_if_clones_equal (λ x y e. e)) c.self.view_is c.requires.absent c.in_ok-insert.ensures.keys
