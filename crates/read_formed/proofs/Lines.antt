-- The lines that are read fit the crate that is named.
use Rattle.std.proofs.Common.{◌≡◌, ◌∙◌, ℕ, zero, suc, true, List, [], ◌∷◌, ◌++◌, map, length, refl, sym, ap, subst}
use Rattle.std.proofs.lemmas.Bool.{and_from, eq-eqb}
use Rattle.std.proofs.lemmas.List.{length-map}
use Rattle.mir_syntax.specs.declared.lines.Lines.{Lines}
use Rattle.mir_syntax.specs.Crate.{Crate}
use Rattle.mir_text.specs.GrammarStatements as r
use Rattle.mir_text.specs.GrammarStatements.{StmtRule}
use Rattle.mir_text.specs.GrammarTerms.{BlockRule, ended_put, block_put}
use Rattle.mir_text.specs.GrammarItems as m
use Rattle.mir_text.specs.GrammarItems.{ArgRule, FnRule, FileRule}
use Rattle.mir_text.specs.Symbols.{strings_of}
use Rattle.mir_text.specs.Names.{Strings, Names, names_of, defs_in, def_paths, def_named}
use Rattle.mir_text.specs.NamedBodies.{Declared, stmts_named, block_named}
use Rattle.mir_text.specs.Naming.{declarations, declares, declared, outsides_in, function_named, functions_in, crate_named}
use Rattle.mir_text.specs.PartLines.{LinesFrom, past, Lined, each_lined, blocks_lined, fn_lined, file_lined}
use Rattle.mir_text.specs.NameFaults.{each}
use Rattle.mir_text.specs.ReadLines.{stmt_line_in, block_lines, local_lines, fn_lines, def_line_in, outside_line_in, fn_lines_in, lines_named}
use Rattle.mir_text.specs.Reads.{ReadsWith, symbol_lines}
use Rattle.mir_text.proofs.Counting.{locals_from-length}
use Rattle.mir_rules.specs.Faults.{same_lengths, block_fits, function_fits, lines_fit}
use Rattle.read_formed.proofs.Declarations.{unlined, declarations_unlined}

-- ---- blocks

stmts-many : (N : Names) (L : Declared) (xs : List StmtRule) (lines : LinesFrom) → length (each stmt_line_in (each_lined ended_put xs lines)) ≡ length (stmts_named N L xs)
stmts-many N L [] lines = refl
stmts-many N L (r.nop ∷ xs) lines = stmts-many N L xs _
stmts-many N L (r.assign q x ∷ xs) lines = ap suc (stmts-many N L xs _)
stmts-many N L (r.live x ∷ xs) lines = ap suc (stmts-many N L xs _)
stmts-many N L (r.dead x ∷ xs) lines = ap suc (stmts-many N L xs _)
stmts-many N L (r.set q k ∷ xs) lines = ap suc (stmts-many N L xs _)

blocks-fit : (N : Names) (L : Declared) (bs : List BlockRule) (lines : LinesFrom) → same_lengths block_fits (map block_lines (blocks_lined bs lines)) (map (block_named N L) bs) ≡ true
blocks-fit N L [] lines = refl
blocks-fit N L (b ∷ bs) lines = and_from _ _ (eq-eqb _ _ (stmts-many N L b.stmts _)) (blocks-fit N L bs (past block_put b lines))

-- ---- functions

lines-many : (found : List (Lined ArgRule)) (x n : ℕ) → length (local_lines found x n) ≡ n
lines-many found x zero = refl
lines-many found x (suc n) = ap suc (lines-many found (suc x) n)

locals-fit : (N : Names) (f : FnRule) (lines : LinesFrom) → length (fn_lines (fn_lined f lines)).locals ≡ length (function_named N f).body.locals
locals-fit N f lines =
    let found = (fn_lined f lines).args ++ (fn_lined f lines).lets in
    let L = declared N f in
    lines-many found 0 (length found) ∙ sym (length-map found unlined) ∙ ap length (declarations_unlined f lines) ∙ sym (length-map (declarations f) (declares N)) ∙ sym (locals_from-length L 0 (length L))

function-fits : (N : Names) (f : FnRule) (lines : LinesFrom) → function_fits (fn_lines (fn_lined f lines)) (function_named N f) ≡ true
function-fits N f lines = and_from _ _ (eq-eqb _ _ (locals-fit N f lines)) (blocks-fit N (declared N f) f.blocks _)

-- ---- files

defs-many : (strings : Strings) (paths : List (List ℕ)) (items : FileRule) (lines : LinesFrom) → length (each def_line_in (file_lined items lines)) ≡ length (map (def_named strings paths) (defs_in items))
defs-many strings paths [] lines = refl
defs-many strings paths (m.struct q fs ∷ items) lines = ap suc (defs-many strings paths items _)
defs-many strings paths (m.enum q vs ∷ items) lines = ap suc (defs-many strings paths items _)
defs-many strings paths (m.extern q us u ∷ items) lines = defs-many strings paths items _
defs-many strings paths (m.function f ∷ items) lines = defs-many strings paths items _

outsides-many : (N : Names) (items : FileRule) (lines : LinesFrom) → length (each outside_line_in (file_lined items lines)) ≡ length (outsides_in N items)
outsides-many N [] lines = refl
outsides-many N (m.struct q fs ∷ items) lines = outsides-many N items _
outsides-many N (m.enum q vs ∷ items) lines = outsides-many N items _
outsides-many N (m.extern q us u ∷ items) lines = ap suc (outsides-many N items _)
outsides-many N (m.function f ∷ items) lines = outsides-many N items _

functions-fit : (N : Names) (items : FileRule) (lines : LinesFrom) → same_lengths function_fits (each fn_lines_in (file_lined items lines)) (functions_in N items) ≡ true
functions-fit N [] lines = refl
functions-fit N (m.struct q fs ∷ items) lines = functions-fit N items _
functions-fit N (m.enum q vs ∷ items) lines = functions-fit N items _
functions-fit N (m.extern q us u ∷ items) lines = functions-fit N items _
functions-fit N (m.function f ∷ items) lines = and_from _ _ (function-fits N f lines) (functions-fit N items _)

file-fits : (strings : Strings) (file : FileRule) (lines : LinesFrom) → lines_fit (lines_named (names_of strings file) (file_lined file lines)) (crate_named strings file) ≡ true
unfolding lines_fit
file-fits strings file lines =
    let N = names_of strings file in
    and_from _ _ (eq-eqb _ _ (defs-many strings (def_paths strings file) file lines))
    (and_from _ _ (eq-eqb _ _ (outsides-many N file lines)) (functions-fit N file lines))

pub reading_fits : (bytes : List ℕ) (C : Crate) (lines : Lines) → ReadsWith bytes C lines → lines_fit lines C ≡ true
reading_fits bytes C lines r =
    let d = r.derivation in
    let fits = file-fits (strings_of d.pieces) d.file (symbol_lines d.pieces) in
    subst (λ l. lines_fit l C ≡ true) r.lined (subst (λ c. lines_fit (lines_named (names_of (strings_of d.pieces) d.file) (file_lined d.file (symbol_lines d.pieces))) c ≡ true) r.named fits)
