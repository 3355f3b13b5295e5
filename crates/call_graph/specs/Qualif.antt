-- Bodies that qualify to be inlined more freely: no call, no drop, no assert and no cycle of blocks.
use Rattle.std.specs.Prelude.{ℕ, zero, suc, Bool, true, false, not, ◌&&◌, List, length}
use Rattle.std.specs.List.{list_all, list_any, range_with_len}
use Rattle.mir_syntax.specs.declared.body.Term.{Term}
use Rattle.mir_syntax.specs.declared.body.Term.TheVariants as term
use Rattle.mir_syntax.specs.declared.body.Body.{Body}
use Rattle.mir_cfg.specs.Paths.{exits, terms_of}

-- neither a call nor a drop nor an assert
abbrev pub is_plain : Term → Bool
is_plain (term.Call p callee args next) = false
is_plain (term.Drop p next) = false
is_plain (term.Assert a expected text args next) = false
is_plain _ = true

-- some path of so many edges begins at a block
abbrev pub goes_on : List Term → ℕ → ℕ → Bool
goes_on terms zero a = true
goes_on terms (suc n) a = list_any (goes_on terms n) (exits terms a)

-- some path has as many edges as there are blocks, and so comes by one of them twice
abbrev pub has_cycle : List Term → Bool
has_cycle terms = list_any (goes_on terms (length terms)) (range_with_len 0 (length terms))

-- all blocks count, also those that no path reaches
abbrev pub terms_qualify : List Term → Bool
terms_qualify terms = list_all is_plain terms && not (has_cycle terms)

unfoldable pub qualifies : Body → Bool
qualifies b = terms_qualify (terms_of b)
