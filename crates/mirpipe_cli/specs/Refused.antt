-- Inputs that are accepted, and inputs that are refused: by which code, on which line; runs that can't be begun, and functions that aren't there.
use Rattle.std.specs.Prelude.{◌≡◌, ◌≤◌, ◌<◌, ℕ, nat_lt, List, [], ◌++◌, length, codes, decimal, Some, None, if◌then◌else◌, ⊤}
use Rattle.mir_syntax.specs.declared.lines.Lines.{Lines}
use Rattle.mir_syntax.specs.declared.number.Number.{Number}
use Rattle.mir_syntax.specs.Crate.{Crate}
use Rattle.mir_text.specs.Reads.{Reads, ReadsWith}
use Rattle.mir_reader.specs.Refusals.{IsRefusedWith}
use Rattle.mir_rules.specs.Accepted.{most_bytes, Accepted}
use Rattle.mir_rules.specs.Faults.{first_rule, first_limit}
use Rattle.crate_run.specs.Ran.{HasNoFunction, IsNoEntry}
use Rattle.mirpipe_cli.specs.declared.fault.InputFault.{InputFault}
use Rattle.mirpipe_cli.specs.declared.fault.InputFault.TheVariants.{Long, Text, Rule, Limit, Drops, NoFunction, NoEntry}
use Rattle.mirpipe_cli.specs.declared.fault.Refusal.{Refusal}
use Rattle.mirpipe_cli.specs.declared.fault.Refusal.TheVariants.{ReadFault, OutOfMemory, Input}
use Rattle.mirpipe_cli.specs.FirstDrop.{first_drop}

-- ---- accepted inputs

-- an input that is not too long is the text of a crate, whose parts have these lines
pub record IsRead (input : List ℕ) (C : Crate) (lines : Lines) : Type 0 where
  pub short : length input ≤ most_bytes
  pub reads : ReadsWith input C lines

-- and the crate is valid and within the limits
pub record IsAccepted (input : List ℕ) (C : Crate) (lines : Lines) : Type 0 where
  pub read : IsRead input C lines
  pub accepted : Accepted input C

-- ---- refused inputs

-- a text that names no crate; with which code and line it is refused
pub record IsUnread (input : List ℕ) (code line : ℕ) : Type 0 where
  pub short : length input ≤ most_bytes
  pub none : (C : Crate) → Reads input C → ⊥
  pub first : IsRefusedWith input code line

pub record BreaksRule (input : List ℕ) (code line : ℕ) : Type 0 where
  pub C : Crate
  pub lines : Lines
  pub read : IsRead input C lines
  pub rule : first_rule lines C ≡ Some (line, code)

pub record PassesLimit (input : List ℕ) (code line : ℕ) : Type 0 where
  pub C : Crate
  pub lines : Lines
  pub read : IsRead input C lines
  pub rules : first_rule lines C ≡ None
  pub limit : first_limit lines C ≡ Some (code, line)

-- an accepted crate that the passes are not made for: the line of its first `drop`
pub record HasDrop (input : List ℕ) (line : ℕ) : Type 0 where
  pub C : Crate
  pub lines : Lines
  pub accepted : IsAccepted input C lines
  pub first : first_drop lines C ≡ Some line

-- an input has a fault; the two of functions are none of an input alone
abbrev pub IsFaulty : List ℕ → InputFault → Type 0
IsFaulty input Long = most_bytes < length input
IsFaulty input (Text code line) = IsUnread input code line
IsFaulty input (Rule code line) = BreaksRule input code line
IsFaulty input (Limit code line) = PassesLimit input code line
IsFaulty input (Drops line) = HasDrop input line
IsFaulty input NoFunction = ⊥
IsFaulty input NoEntry = ⊥

-- the fault of a refusal, where it is one of the input, is such a fault
abbrev pub OfInput : (InputFault → Type 0) → Refusal → Type 0
OfInput P (Input fault) = P fault
OfInput P ReadFault = ⊤
OfInput P OutOfMemory = ⊤

-- a fault other than a `drop`
abbrev pub IsNoDrop : InputFault → Type 0
IsNoDrop (Drops line) = ⊥
IsNoDrop fault = ⊤

-- ---- runs that can't be begun

-- an accepted crate in which no function has the path
pub record LacksFunction (input path : List ℕ) : Type 0 where
  pub C : Crate
  pub lines : Lines
  pub accepted : IsAccepted input C lines
  pub none : HasNoFunction C path

-- an accepted crate with the function, which can't be called from outside with these arguments
pub record LacksEntry (input path : List ℕ) (args : List Number) : Type 0 where
  pub C : Crate
  pub lines : Lines
  pub accepted : IsAccepted input C lines
  pub none : IsNoEntry C path args

-- an accepted crate without `drop` in which no function has the path
pub record LacksDumped (input path : List ℕ) : Type 0 where
  pub C : Crate
  pub lines : Lines
  pub accepted : IsAccepted input C lines
  pub no_drop : first_drop lines C ≡ None
  pub none : HasNoFunction C path

-- ---- the line of notes

-- a code has two digits
abbrev pub zero_before : ℕ → List ℕ
zero_before code = if nat_lt code 10 then codes "0" else []

abbrev pub place_line : List ℕ → ℕ → ℕ → List ℕ
place_line letter code line = letter ++ (zero_before code ++ (decimal code ++ (codes " line " ++ (decimal line ++ codes "\n"))))

abbrev pub fault_line : InputFault → List ℕ
fault_line Long = codes "L01 67108865\n"
fault_line (Text code line) = place_line (codes "S") code line
fault_line (Rule code line) = place_line (codes "V") code line
fault_line (Limit code line) = place_line (codes "L") code line
fault_line (Drops line) = place_line (codes "S") 16 line
fault_line NoFunction = codes "E01\n"
fault_line NoEntry = codes "E02\n"
