-- Words that say a command fit its row, so no word of them is the first that doesn't.
use Rattle.std.proofs.Common.{◌≡◌, ℕ, suc, List, [], ◌∷◌, codes, refl, sym, ap, ◌∙◌, subst, inl, inr}
use Rattle.pipe_words.specs.declared.command.Command.{Command}
use Rattle.pipe_words.specs.declared.command.Command.TheVariants.{Check, Seq, Run, Dump, Gen}
use Rattle.pipe_words.specs.Commands.{Says, Want, Fits, Misses, IsMisfit, row_of}

abbrev AllFit : List Want → List (List ℕ) → Type 0
AllFit [] [] = Unit {0}
AllFit [] (word ∷ words) = ⊥
AllFit (want ∷ row) [] = ⊥
AllFit (want ∷ row) (word ∷ words) = Fits want word × AllFit row words

none_misses : (row : List Want) (words : List (List ℕ)) (k place : ℕ) → AllFit row words → Misses k row words place → ⊥
none_misses [] [] k place fit misses = misses
none_misses [] (word ∷ words) k place fit misses = fit
none_misses (want ∷ row) [] k place fit misses = fit
none_misses (want ∷ row) (word ∷ words) k place (fits, others) (inl (stops, at)) = stops fits
none_misses (want ∷ row) (word ∷ words) k place (fits, others) (inr (same, misses)) = none_misses row words (suc k) place others misses

fit_as : (words same : List (List ℕ)) → words ≡ same → AllFit (row_of same) same → AllFit (row_of words) words
fit_as words same e fit = subst (λ (l : List (List ℕ)). AllFit (row_of l) l) (sym e) fit

said_fit : (words : List (List ℕ)) (command : Command) → Says words command → AllFit (row_of words) words
said_fit words Check says = fit_as words _ says (refl, tt)
said_fit words Seq says = fit_as words _ says (refl, tt)
said_fit words (Run path args answers steps) (rest, e, run) =
    let given = run.is_given in
    let whole = e ∙ ap (λ l. codes "run" ∷ l) (run.words_are ∙ ap (λ l. path ∷ run.args_word ∷ l) given.words_are) in
    fit_as words _ whole (refl, (run.is_path, ((args, run.are_args), (refl, ((given.numbers, given.are_numbers), (refl, ((steps, given.are_steps), tt)))))))
said_fit words (Dump stage path) (rest, e, dump) =
    let whole = e ∙ ap (λ l. codes "dump" ∷ l) dump.words_are in
    fit_as words _ whole (refl, ((stage, dump.is_stage), (dump.is_path, tt)))
said_fit words (Gen start functions) (rest, e, gen) =
    let whole = e ∙ ap (λ l. codes "gen" ∷ l) gen.words_are in
    fit_as words _ whole (refl, ((start, gen.is_start), ((functions, gen.are_functions), tt)))

pub no_misfit : (words : List (List ℕ)) (command : Command) (place : ℕ) → Says words command → IsMisfit words place → ⊥
no_misfit words command place says misfit = none_misses (row_of words) words 1 place (said_fit words command says) misfit
