use Rattle.std.proofs.Common.{◌≡◌, ◌<◌, ◌≤◌, ℕ, zero, suc, length, List, [], ◌∷◌, ◌++◌, Ok, ap, sym, ◌∙◌, arith}
use Rattle.mir_text.specs.declared.symbol.Symbol.{Symbol}
use Rattle.mir_tree.specs.declared.Lined.{Lined}
use Rattle.mir_tree.specs.declared.body.StmtText.{StmtText}
use Rattle.mir_tree.specs.declared.body.TermText.{TermText}
use Rattle.mir_parse.specs.declared.line.LineText.{LineText}
use Rattle.mir_parse.specs.declared.line.LineText.TheVariants as l
use Rattle.mir_parse.specs.Parser.{Found}
use Rattle.mir_parse.specs.Lines.{ended_line, line_of, Stmts, lines_from}
use Rattle.mir_parse.proofs.block.read_lines.Goals as goal

-- a statement leaves one turn less
one_turn : (lines : List ℕ) (whole turns most : ℕ) (before after : Stmts) (rest past : List Symbol) (found : Found (Stmts × Lined TermText)) (y : LineText) (at : ℕ) (x : StmtText)
    → ended_line rest ≡ Ok (y, past) → y ≡ l.Stmt x → at ≡ line_of lines whole rest → after ≡ before ++ (record { line = at; part = x }) ∷ []
    → length past < length rest → length rest ≤ turns → length rest ≤ most → found ≡ lines_from lines whole (suc turns) before rest
    → (n : ℕ) × (length past ≤ n) × (length past ≤ most) × (found ≡ lines_from lines whole (suc n) after past)
unfolding lines_from
one_turn lines whole zero most before after rest past found y at x h is line_is pushed short few within e = absurd (omega arith)
one_turn lines whole (suc k) most before after rest past found y at x h is line_is pushed short few within e =
    let f : LineText → Found LineText = λ z. Ok (z, past) in
    let read = h ∙ ap f is in
    let go : Stmts → Found (Stmts × Lined TermText) = λ b. lines_from lines whole (suc k) b past in
    let put : ℕ → Stmts = λ m. before ++ (record { line = m; part = x }) ∷ [] in
    (k, omega arith, omega arith, e ∙ rw read (ap go (ap put (sym line_is) ∙ sym pushed)))

pub turns-preserved : goal.turns-preserved
turns-preserved c =
    let inv = c.turns.invariant in
    one_turn c.args.lines.now c.args.whole inv.0 (length c.args.symbols.now) c.turns.stmts c.push.new.self c.turns.rest.now c.in_ok-found.past.now _ c.in_ok-found.found c.line_at-line.result c.in-Stmt.part
    c.in_ok-found.ensures.read c.in-Stmt.is c.line_at-line.ensures c.in_ok-push-in-Stmt.ensures.ok c.in_ok-found.ensures.shorter inv.1 inv.2 inv.3
