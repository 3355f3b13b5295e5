use Rattle.std.proofs.Common.{◌+◌, ◌*◌}
use Rattle.mir_parse.proofs.place.+places.Given as goal

abbrev pub decreases-read_place : goal.decreases-read_place
decreases-read_place l = 3 * l.depth

abbrev pub decreases-read_inside : goal.decreases-read_inside
decreases-read_inside l = 3 * l.depth + 1

abbrev pub decreases-read_outer_place : goal.decreases-read_outer_place
decreases-read_outer_place l = 3 * l.depth + 2

abbrev pub decreases-read_base : goal.decreases-read_base
decreases-read_base l = 3 * l.depth

abbrev pub decreases-read_base_inside : goal.decreases-read_base_inside
decreases-read_base_inside l = 3 * l.depth + 1

abbrev pub decreases-read_outer_base : goal.decreases-read_outer_base
decreases-read_outer_base l = 3 * l.depth + 2
