-- Texts that are refused.
use Rattle.std.specs.Prelude.{ℕ, zero, suc, List, [], ◌∷◌, ◌++◌, codes}

-- so many `&`
abbrev pub ampersands : ℕ → List ℕ
ampersands zero = []
ampersands (suc n) = 38 ∷ ampersands n

-- a type in 65 others
abbrev pub deep_type : List ℕ
deep_type = codes "\nstruct A(" ++ (ampersands 65 ++ codes "u8);\n")

-- a constant that doesn't fit its type
abbrev pub unfit_number : List ℕ
unfit_number = codes "fn f() -> () {\n    bb0: {\n        _0 = const 256_u8;\n    }\n}\n"

-- a local with a large number
abbrev pub large_local : List ℕ
large_local = codes "fn f(\n    _4294967296: u8) -> () {\n"
