-- Words against the rows of commands, by the first word.
use Rattle.std.proofs.Common.{◌≡◌, ℕ, true, false, List, [], ◌∷◌, codes, refl, ap, inl, inr}
use Rattle.std.specs.Str.{bytes_eq}
use Rattle.pipe_words.specs.declared.command.Command.{Command}
use Rattle.pipe_words.specs.declared.command.Command.TheVariants.{Check, Seq, Run, Dump, Gen}
use Rattle.pipe_words.specs.Commands.{Want, exactly, Misses, IsMisfit, SaysRun, SaysDump, SaysGen, Says, row_of, run_row, dump_row, gen_row}

first_misses : (text first : List ℕ) (row : List Want) (rest : List (List ℕ)) (place : ℕ) → row_of (first ∷ rest) ≡ exactly text ∷ row → first ≡ text → Misses 2 row rest place → IsMisfit (first ∷ rest) place
first_misses text first row rest place e same misses = rw e (inr (same, misses))

pub check_misses : (first : List ℕ) (rest : List (List ℕ)) (place : ℕ) → bytes_eq first (codes "check") ≡ true → first ≡ codes "check" → Misses 2 [] rest place → IsMisfit (first ∷ rest) place
check_misses first rest place e same misses = first_misses (codes "check") first [] rest place (rw e refl) same misses

pub seq_misses : (first : List ℕ) (rest : List (List ℕ)) (place : ℕ) → bytes_eq first (codes "check") ≡ false → bytes_eq first (codes "seq") ≡ true → first ≡ codes "seq" → Misses 2 [] rest place → IsMisfit (first ∷ rest) place
seq_misses first rest place e g same misses = first_misses (codes "seq") first [] rest place (rw (e, g) refl) same misses

pub dump_misses : (first : List ℕ) (rest : List (List ℕ)) (place : ℕ) → bytes_eq first (codes "check") ≡ false → bytes_eq first (codes "seq") ≡ false → bytes_eq first (codes "dump") ≡ true → first ≡ codes "dump" → Misses 2 dump_row rest place → IsMisfit (first ∷ rest) place
dump_misses first rest place e g h same misses = first_misses (codes "dump") first dump_row rest place (rw (e, g, h) refl) same misses

pub gen_misses : (first : List ℕ) (rest : List (List ℕ)) (place : ℕ) → bytes_eq first (codes "check") ≡ false → bytes_eq first (codes "seq") ≡ false → bytes_eq first (codes "dump") ≡ false → bytes_eq first (codes "gen") ≡ true → first ≡ codes "gen" → Misses 2 gen_row rest place → IsMisfit (first ∷ rest) place
gen_misses first rest place e g h i same misses = first_misses (codes "gen") first gen_row rest place (rw (e, g, h, i) refl) same misses

pub run_misses : (first : List ℕ) (rest : List (List ℕ)) (place : ℕ) → bytes_eq first (codes "check") ≡ false → bytes_eq first (codes "seq") ≡ false → bytes_eq first (codes "dump") ≡ false → bytes_eq first (codes "gen") ≡ false → first ≡ codes "run" → Misses 2 run_row rest place → IsMisfit (first ∷ rest) place
run_misses first rest place e g h i same misses = first_misses (codes "run") first run_row rest place (rw (e, g, h, i) refl) same misses

pub none_misses : (first : List ℕ) (rest : List (List ℕ)) → bytes_eq first (codes "check") ≡ false → bytes_eq first (codes "seq") ≡ false → bytes_eq first (codes "dump") ≡ false → bytes_eq first (codes "gen") ≡ false → (first ≡ codes "run" → ⊥) → IsMisfit (first ∷ rest) 1
none_misses first rest e g h i apart = let row : row_of (first ∷ rest) ≡ exactly (codes "run") ∷ run_row = rw (e, g, h, i) refl in rw row (inl (apart, refl))

pub says_run : (first : List ℕ) (rest : List (List ℕ)) (command : Command) → first ≡ codes "run" → SaysRun rest command → Says (first ∷ rest) command
says_run first rest Check e h = absurd h
says_run first rest Seq e h = absurd h
says_run first rest (Run path args answers steps) e h = (rest, ap (λ w. w ∷ rest) e, h)
says_run first rest (Dump stage path) e h = absurd h
says_run first rest (Gen start functions) e h = absurd h

pub says_dump : (first : List ℕ) (rest : List (List ℕ)) (command : Command) → first ≡ codes "dump" → SaysDump rest command → Says (first ∷ rest) command
says_dump first rest Check e h = absurd h
says_dump first rest Seq e h = absurd h
says_dump first rest (Run path args answers steps) e h = absurd h
says_dump first rest (Dump stage path) e h = (rest, ap (λ w. w ∷ rest) e, h)
says_dump first rest (Gen start functions) e h = absurd h

pub says_gen : (first : List ℕ) (rest : List (List ℕ)) (command : Command) → first ≡ codes "gen" → SaysGen rest command → Says (first ∷ rest) command
says_gen first rest Check e h = absurd h
says_gen first rest Seq e h = absurd h
says_gen first rest (Run path args answers steps) e h = absurd h
says_gen first rest (Dump stage path) e h = absurd h
says_gen first rest (Gen start functions) e h = (rest, ap (λ w. w ∷ rest) e, h)
