-- The commands, word by word.
use Rattle.std.specs.Prelude.{◌≡◌, ◌⊎◌, ℕ, suc, List, [], ◌∷◌, map, codes, if◌then◌else◌}
use Rattle.std.specs.Str.{bytes_eq}
use Rattle.mir_syntax.specs.declared.number.Number.{Number}
use Rattle.mir_syntax.specs.declared.stage.Stage.{Stage}
use Rattle.pipe_words.specs.declared.command.Command.{Command}
use Rattle.pipe_words.specs.declared.command.Command.TheVariants.{Check, Seq, Run, Dump, Gen}
use Rattle.pipe_words.specs.Numbers.{IsNumbers, IsBetween, wrapped}
use Rattle.pipe_words.specs.Paths.{IsPath}
use Rattle.pipe_words.specs.Stages.{IsStage}

-- ---- what words say

-- the words behind the arguments: numbers that stand for the answers, and the number of steps, at most a million
pub record IsGiven (words : List (List ℕ)) (answers : List ℕ) (steps : ℕ) : Type 0 where
  pub answers_word : List ℕ
  pub numbers : List Number
  pub steps_word : List ℕ
  pub words_are : words ≡ codes "--answers" ∷ answers_word ∷ codes "--steps" ∷ steps_word ∷ []
  pub are_numbers : IsNumbers answers_word numbers
  pub answers_are : answers ≡ map wrapped numbers
  pub are_steps : IsBetween 0 1000000 steps_word steps

-- the words behind `run`
pub record IsRun (words : List (List ℕ)) (path : List ℕ) (args : List Number) (answers : List ℕ) (steps : ℕ) : Type 0 where
  pub args_word : List ℕ
  pub given : List (List ℕ)
  pub words_are : words ≡ path ∷ args_word ∷ given
  pub is_path : IsPath path
  pub are_args : IsNumbers args_word args
  pub is_given : IsGiven given answers steps

-- the words behind `run` say this command
abbrev pub SaysRun : List (List ℕ) → Command → Type 0
SaysRun words Check = ⊥
SaysRun words Seq = ⊥
SaysRun words (Run path args answers steps) = IsRun words path args answers steps
SaysRun words (Dump stage path) = ⊥
SaysRun words (Gen start functions) = ⊥

-- the words behind `dump`
pub record IsDump (words : List (List ℕ)) (stage : Stage) (path : List ℕ) : Type 0 where
  pub stage_word : List ℕ
  pub words_are : words ≡ stage_word ∷ path ∷ []
  pub is_stage : IsStage stage_word stage
  pub is_path : IsPath path

-- the words behind `dump` say this command
abbrev pub SaysDump : List (List ℕ) → Command → Type 0
SaysDump words Check = ⊥
SaysDump words Seq = ⊥
SaysDump words (Run path args answers steps) = ⊥
SaysDump words (Dump stage path) = IsDump words stage path
SaysDump words (Gen start functions) = ⊥

-- the words behind `gen`: a number, and how many functions are made from it
pub record IsGen (words : List (List ℕ)) (start functions : ℕ) : Type 0 where
  pub start_word : List ℕ
  pub functions_word : List ℕ
  pub words_are : words ≡ start_word ∷ functions_word ∷ []
  pub is_start : IsBetween 0 2147483647 start_word start
  pub are_functions : IsBetween 1 10000 functions_word functions

-- the words behind `gen` say this command
abbrev pub SaysGen : List (List ℕ) → Command → Type 0
SaysGen words Check = ⊥
SaysGen words Seq = ⊥
SaysGen words (Run path args answers steps) = ⊥
SaysGen words (Dump stage path) = ⊥
SaysGen words (Gen start functions) = IsGen words start functions

abbrev pub Says : List (List ℕ) → Command → Type 0
Says words Check = words ≡ codes "check" ∷ []
Says words Seq = words ≡ codes "seq" ∷ []
Says words (Run path args answers steps) = (rest : List (List ℕ)) × (words ≡ codes "run" ∷ rest) × IsRun rest path args answers steps
Says words (Dump stage path) = (rest : List (List ℕ)) × (words ≡ codes "dump" ∷ rest) × IsDump rest stage path
Says words (Gen start functions) = (rest : List (List ℕ)) × (words ≡ codes "gen" ∷ rest) × IsGen rest start functions

-- ---- where words don't fit

-- what stands at a place of a command
pub data Want : Type 0 where
  exactly : List ℕ → Want
  path : Want
  numbers : Want
  between : ℕ → ℕ → Want
  stage : Want

abbrev pub Fits : Want → List ℕ → Type 0
Fits (exactly text) word = word ≡ text
Fits path word = IsPath word
Fits numbers word = (ns : List Number) × IsNumbers word ns
Fits (between least most) word = (n : ℕ) × IsBetween least most word n
Fits stage word = (s : Stage) × IsStage word s

-- no first word that fits
abbrev pub Stops : Want → List (List ℕ) → Type 0
Stops want [] = Unit {0}
Stops want (word ∷ words) = Fits want word → ⊥

abbrev pub given_row : List Want
given_row = exactly (codes "--answers") ∷ numbers ∷ exactly (codes "--steps") ∷ between 0 1000000 ∷ []

abbrev pub run_row : List Want
run_row = path ∷ numbers ∷ given_row

abbrev pub dump_row : List Want
dump_row = stage ∷ path ∷ []

abbrev pub gen_row : List Want
gen_row = between 0 2147483647 ∷ between 1 10000 ∷ []

-- the row of the command that a first word names; of a word that names none, one that it doesn't fit
abbrev pub row_of : List (List ℕ) → List Want
row_of [] = exactly (codes "run") ∷ run_row
row_of (word ∷ words) =
    if bytes_eq word (codes "check") then exactly (codes "check") ∷ []
    else (if bytes_eq word (codes "seq") then exactly (codes "seq") ∷ []
    else (if bytes_eq word (codes "dump") then exactly (codes "dump") ∷ dump_row
    else (if bytes_eq word (codes "gen") then exactly (codes "gen") ∷ gen_row
    else exactly (codes "run") ∷ run_row)))

-- words against a row, both from a place on: the place of the first that doesn't fit, or after the last where one is missing
abbrev pub Misses : ℕ → List Want → List (List ℕ) → ℕ → Type 0
Misses k [] [] place = ⊥
Misses k [] (word ∷ words) place = place ≡ k
Misses k (want ∷ row) [] place = place ≡ k
Misses k (want ∷ row) (word ∷ words) place = (Stops want (word ∷ words) × (place ≡ k)) ⊎ (Fits want word × Misses (suc k) row words place)

-- the place, from 1, of the first word that doesn't fit
abbrev pub IsMisfit : List (List ℕ) → ℕ → Type 0
IsMisfit words place = Misses 1 (row_of words) words place
