use Rattle.std.proofs.Common.{◌≡◌, ◌+◌, ◌∷◌, [], ap, length, take, map, get_or, subst, ℕ, List, true, arith}
use Rattle.std.proofs.lemmas.List.{take_all}
use Rattle.bit_rows.specs.Rows.{stands}
use Rattle.mir_syntax.specs.Drops.{fn_number}
use Rattle.mir_syntax.specs.declared.types.FnId.{FnId}
use Rattle.candidates.specs.Walk.{Brings, never_in}
use Rattle.candidates.proofs.Walking.{stands_mapped, mapped_more, brings_more, brings_walk, brings_none}
use Rattle.candidates.proofs.walk.Walk.bring.Goals as goal

pub loop-c-init : goal.loop-c-init
loop-c-init c = brings_none (never_in c.args.functions.now) (length c.args.functions.now) c.args.self.now c.requires.walk

pub bring_one-requires-clause-walk : goal.bring_one-requires-clause-walk
bring_one-requires-clause-walk c = brings_walk (never_in c.args.functions.now) (length c.args.functions.now) c.args.self.now c.loop-c.self (map fn_number (take c.loop-c.c-index c.args.calls.now)) c.requires.walk c.loop-c.invariant

pub bring_one-requires-clause-c : goal.bring_one-requires-clause-c
bring_one-requires-clause-c c =
    let e = c.as_slice-c-items.ensures in
    let there = stands_mapped fn_number c.as_slice-c-items.result.now c.loop-c.c-index (record { 0 = 0 }) c.loop-c-test.true in
    c.requires.calls (get_or c.as_slice-c-items.result.now c.loop-c.c-index (record { 0 = 0 })).0
    (let number : ℕ = (get_or c.as_slice-c-items.result.now c.loop-c.c-index (record { 0 = 0 })).0 in subst (λ (xs : List FnId). let ys : List ℕ = map fn_number xs in stands number ys ≡ true) e there)

pub loop-c-preserved : goal.loop-c-preserved
loop-c-preserved c =
    let i = c.loop-c.c-index in
    let xs : List FnId = c.args.calls.now in
    let e : c.as_slice-c-items.result.now ≡ xs = c.as_slice-c-items.ensures in
    let long : length c.as_slice-c-items.result.now ≡ length xs = ap length e in
    let more = mapped_more fn_number xs i (record { 0 = 0 }) (let t = c.loop-c-test.true in omega (arith, t, long)) in
    let one : Brings (never_in c.args.functions.now) (length c.args.functions.now) c.loop-c.self c.bring_one.new.self ((get_or xs i (record { 0 = 0 })).0 ∷ []) =
    subst (λ (ys : List FnId). Brings (never_in c.args.functions.now) (length c.args.functions.now) c.loop-c.self c.bring_one.new.self ((get_or ys i (record { 0 = 0 })).0 ∷ [])) e c.in_ok-bring_one.ensures in
    brings_more (never_in c.args.functions.now) (length c.args.functions.now) c.args.self.now c.loop-c.self c.bring_one.new.self (map fn_number (take i xs)) ((get_or xs i (record { 0 = 0 })).0 ∷ []) (map fn_number (take (i + 1) xs)) c.loop-c.invariant one more

pub returns : goal.returns
returns c =
    let xs : List FnId = c.args.calls.now in
    let long : length c.as_slice-c-items.result.now ≡ length xs = ap length c.as_slice-c-items.ensures in
    let all : take c.loop-c.c-index xs ≡ xs = take_all c.loop-c.c-index xs (let t = c.loop-c-test.false in omega (arith, t, long)) in
    subst (λ (ys : List FnId). Brings (never_in c.args.functions.now) (length c.args.functions.now) c.args.self.now c.loop-c.self (map fn_number ys)) all c.loop-c.invariant
