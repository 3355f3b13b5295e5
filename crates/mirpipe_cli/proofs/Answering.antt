-- What is told, from what was read and written.
use Rattle.std.proofs.Common.{◌≡◌, ◌∙◌, ℕ, List, [], ◌∷◌, codes, Option, Some, None, inl, inr, refl, sym, ap, ap₂, subst, ◌≤◌, arith}
use Rattle.std.proofs.lemmas.List.{append-nil}
use Rattle.std.proofs.lemmas.Fmt.{decimal_injective}
use Rattle.std.specs.Io.KnownBytes.{Appends}
use Rattle.mir_syntax.specs.declared.lines.Lines.{Lines}
use Rattle.mir_syntax.specs.declared.number.Number.{Number}
use Rattle.mir_syntax.specs.declared.stage.Stage.{Stage}
use Rattle.mir_syntax.specs.declared.stage.Stage.TheVariants as at
use Rattle.mir_syntax.specs.Crate.{Crate}
use Rattle.mir_text.specs.Text.{text}
use Rattle.pass_order.specs.Passes.{optimised}
use Rattle.pass_order.specs.Stages.{HasStep}
use Rattle.crate_run.specs.Ran.{IsRunText, IsNoEntry}
use Rattle.pipe_words.specs.declared.command.Command.{Command}
use Rattle.pipe_words.specs.declared.command.Command.TheVariants.{Check, Seq, Run, Dump, Gen}
use Rattle.pipe_words.specs.Commands.{Says, IsMisfit}
use Rattle.pipe_words.specs.Stages.{IsStage}
use Rattle.mirpipe_cli.specs.declared.fault.InputFault.{InputFault}
use Rattle.mirpipe_cli.specs.FirstDrop.{first_drop}
use Rattle.mirpipe_cli.specs.Refused.{IsAccepted}
use Rattle.mirpipe_cli.specs.Answer.{done, refused, word_fault, Refuses, Writes, CanBeDone, Answers, IsOptimised}
use Rattle.mirpipe_cli.proofs.Refined.{passed_refines}

pub appends_none : (known : Option (List ℕ)) → Appends known known []
appends_none None = tt
appends_none (Some xs) = sym (append-nil xs)

pub answers_word : (words : List (List ℕ)) (input : List ℕ) (k : ℕ) → IsMisfit words k → Answers words input (word_fault k)
answers_word words input k misfit = inr (k, misfit, refl)

pub answers_done : (words : List (List ℕ)) (input bytes : List ℕ) (command : Command) → Says words command → Writes command input bytes → Answers words input (done bytes)
answers_done words input bytes command says writes = inl (command, says, inl (bytes, writes, refl))

pub answers_refused : (words : List (List ℕ)) (input : List ℕ) (command : Command) (fault : InputFault) → Says words command → Refuses command input fault → Answers words input (refused fault)
answers_refused words input command fault says refuses = inl (command, says, inr (fault, refuses, refl))

-- words that say `seq` say nothing else
pub says_seq : (words : List (List ℕ)) (command : Command) → Says words Seq → Says words command → command ≡ Seq
says_seq words Check seq other = let wrong : codes "seq" ∷ [] ≡ codes "check" ∷ [] = sym seq ∙ other in absurd cc
says_seq words Seq seq other = refl
says_seq words (Run name args answers count) seq (rest, e, run) = let wrong : codes "seq" ∷ [] ≡ codes "run" ∷ rest = sym seq ∙ e in absurd cc
says_seq words (Dump stage name) seq (rest, e, dump) = let wrong : codes "seq" ∷ [] ≡ codes "dump" ∷ rest = sym seq ∙ e in absurd cc
says_seq words (Gen start functions) seq (rest, e, gen) = let wrong : codes "seq" ∷ [] ≡ codes "gen" ∷ rest = sym seq ∙ e in absurd cc

-- words that say `gen` say nothing else
pub says_gen : (words : List (List ℕ)) (start functions : ℕ) (command : Command) → Says words (Gen start functions) → Says words command → command ≡ Gen start functions
says_gen words start functions Check (rest, e, gen) other = let wrong : codes "gen" ∷ rest ≡ codes "check" ∷ [] = sym e ∙ other in absurd cc
says_gen words start functions Seq (rest, e, gen) other = let wrong : codes "gen" ∷ rest ≡ codes "seq" ∷ [] = sym e ∙ other in absurd cc
says_gen words start functions (Run name args answers count) (rest, e, gen) (behind, f, run) = let wrong : codes "gen" ∷ rest ≡ codes "run" ∷ behind = sym e ∙ f in absurd cc
says_gen words start functions (Dump stage name) (rest, e, gen) (behind, f, dump) = let wrong : codes "gen" ∷ rest ≡ codes "dump" ∷ behind = sym e ∙ f in absurd cc
says_gen words start functions (Gen start2 functions2) (rest, e, gen) (behind, f, gen2) =
    let whole : codes "gen" ∷ rest ≡ codes "gen" ∷ behind = sym e ∙ f in
    let tail : rest ≡ behind = grind (arith) in
    let two : gen.start_word ∷ gen.functions_word ∷ [] ≡ gen2.start_word ∷ gen2.functions_word ∷ [] = sym gen.words_are ∙ tail ∙ gen2.words_are in
    let first : gen.start_word ≡ gen2.start_word = grind (arith) in
    let second : gen.functions_word ≡ gen2.functions_word = grind (arith) in
    let low : start ≤ 2147483647 = gen.is_start.high in
    let low2 : start2 ≤ 2147483647 = gen2.is_start.high in
    let few : functions ≤ 10000 = gen.are_functions.high in
    let few2 : functions2 ≤ 10000 = gen2.are_functions.high in
    let starts : start2 ≡ start = decimal_injective start2 start (omega arith) (omega arith) (sym gen2.is_start.whole ∙ sym first ∙ gen.is_start.whole) in
    let counts : functions2 ≡ functions = decimal_injective functions2 functions (omega arith) (omega arith) (sym gen2.are_functions.whole ∙ sym second ∙ gen.are_functions.whole) in
    ap₂ Gen starts counts

-- a stage that has a word has a step
step_there : (stage : Stage) (word : List ℕ) → IsStage word stage → HasStep stage
step_there at.Built word e = (0, refl)
step_there at.Promoted word e = (1, refl)
step_there at.Elaborated word e = absurd cc
step_there at.Spliced word e = absurd cc
step_there at.Split word e = (2, refl)
step_there at.Folded word e = (3, refl)
step_there at.Threaded word e = (5, refl)
step_there at.Merged word e = (7, refl)
step_there at.Pruned word e = (8, refl)
step_there at.Optimised word e = (10, refl)

pub can_be_done : (words : List (List ℕ)) (command : Command) → Says words command → CanBeDone command
can_be_done words Check says = tt
can_be_done words Seq says = tt
can_be_done words (Run name args answers count) says = tt
can_be_done words (Dump stage name) (rest, e, dump) = step_there stage dump.stage_word dump.is_stage
can_be_done words (Gen start functions) (rest, e, gen) = (gen.are_functions.low, gen.are_functions.high)

-- what the passes make of an accepted crate refines it
pub printed_refines : (input : List ℕ) (C D : Crate) (lines : Lines) → IsAccepted input C lines → first_drop lines C ≡ None → D ≡ optimised C → IsOptimised input (text D)
printed_refines input C D lines accepted no_drop same =
    record {
      C = C;
      accepted = accepted.accepted;
      written = ap text same;
      refines = passed_refines C lines accepted.accepted.valid accepted.accepted.within no_drop;
    }

-- ---- runs

-- the same words, read from lists and from slices
pub run_text_as : (C : Crate) (path path2 : List ℕ) (args args2 : List Number) (answers answers2 : List ℕ) (steps : ℕ) (bytes : List ℕ) → path ≡ path2 → args ≡ args2 → answers ≡ answers2
    → IsRunText C path args answers steps bytes → IsRunText C path2 args2 answers2 steps bytes
run_text_as C path path2 args args2 answers answers2 steps bytes e f h run =
    subst (λ l. IsRunText C path2 args2 l steps bytes) h
    (subst (λ l. IsRunText C path2 l answers steps bytes) f
    (subst (λ l. IsRunText C l args answers steps bytes) e run))

pub no_entry_as : (C : Crate) (path path2 : List ℕ) (args args2 : List Number) → path ≡ path2 → args ≡ args2 → IsNoEntry C path args → IsNoEntry C path2 args2
no_entry_as C path path2 args args2 e f none = subst (λ l. IsNoEntry C path2 l) f (subst (λ l. IsNoEntry C l args) e none)
