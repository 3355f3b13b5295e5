-- All that has to unfold for a run on numerals to compute.
use Rattle.mir_syntax.specs.Shapes.{◌>>=◌, shapes_of, place_ty, needs_drop}
use Rattle.mir_num.specs.Numbers.{wrap, integer_of, bits_of, fits, exactly, quotient, remainder, flag, binop, exact, over, unary, cast}
use Rattle.mir_semantics.specs.Values.{blank, full}
use Rattle.mir_semantics.specs.Memory.{local_at, value_at, write, open_frame, project, walk}
use Rattle.mir_semantics.specs.Step.{local_addr, resolve, type_of, guard_of, dest_of, store, const_value, read_at, read, read_all, read_number, operand_ty, scalar_ty_of, read_two, eval, set_blank, write_unless, exec, new_slots, entered, enter, ask, call, work_on, visit, visit_unless, visit_if, work_off, begun, destroyed_at, destroyed, return_to, integers, check, finish, perform, step}
use Rattle.mir_semantics.specs.Entry.{holds_reference, has_type, flat}

unfoldable pub Opened : Type 0
unfolding ◌>>=◌ shapes_of place_ty needs_drop wrap integer_of bits_of fits exactly quotient remainder flag binop exact over unary cast blank full local_at value_at write open_frame project walk local_addr resolve type_of guard_of dest_of store const_value read_at read read_all read_number operand_ty scalar_ty_of read_two eval set_blank write_unless exec new_slots entered enter ask call work_on visit visit_unless visit_if work_off begun destroyed_at destroyed return_to integers check finish perform step holds_reference has_type flat
Opened = Unit {0}
