-- S09: the number of a local is too large.
use Rattle.std.proofs.Common.{◌≡◌, ℕ, ◌<◌, false, inl, inr, List, [], ◌∷◌, ◌++◌, refl, arith}
use Rattle.mir_syntax.specs.declared.types.IntTy.TheVariants as i
use Rattle.mir_text.specs.declared.symbol.Symbol.{Symbol}
use Rattle.mir_text.specs.declared.symbol.Symbol.TheVariants as s
use Rattle.mir_text.specs.Bytes.{suffix_at}
use Rattle.mir_text.specs.Pieces.{Piece, text_of, Stand}
use Rattle.mir_text.specs.Words.{word_place}
use Rattle.mir_text.specs.Symbols.{word_token, block_digits}
use Rattle.mir_text.specs.Grammar as g
use Rattle.mir_text.specs.GrammarTypes as t
use Rattle.mir_text.specs.GrammarItems as n
use Rattle.mir_text.specs.GrammarItems.{FileRule, file_put}
use Rattle.mir_text.specs.ReadFaults.{GoesOn, TooDeep, Breaks, Reading, IsReadFault}
use Rattle.mir_text.proofs.Cut.{cut, cut_from, piece_at, number_piece, stands as stand_by}
use Rattle.mir_refusals.specs.Texts.{large_local}
use Rattle.mir_refusals.proofs.Symbols.{stands, none-refused, no-fourth, name-opens, paren-opens, AllStand}

-- a file that begins in the same way
same_front : FileRule
same_front = n.function (record {
  attr = n.none;
  is_drop = false;
  path = t.name 8;
  args = g.last (0, t.int i.U8);
  result = t.unit;
  locals = n.no_decls;
  blocks = [];
}) ∷ []

abbrev front : List Symbol
front = s.Fn ∷ s.Name 8 ∷ s.Open ∷ []

abbrev behind : List Symbol
behind = s.Colon ∷ s.Int i.U8 ∷ s.Close ∷ s.Arrow ∷ s.Open ∷ s.Close ∷ s.OpenBrace ∷ s.CloseBrace ∷ []

front-stands : AllStand [] front
unfolding same_front
front-stands = (
  stands [] s.Fn (inl (record { file = same_front; more = s.Name 8 ∷ s.Open ∷ s.Local 0 ∷ behind; derives = refl })) (λ e. absurd cc) (λ h. h.opens) (λ h. h) (λ h. h),
  (
    stands (s.Fn ∷ []) (s.Name 8) (inl (record { file = same_front; more = s.Open ∷ s.Local 0 ∷ behind; derives = refl })) (λ e. absurd cc) (name-opens 8) (λ h. h) (λ h. h),
    (
      stands (s.Fn ∷ s.Name 8 ∷ []) s.Open (inl (record { file = same_front; more = s.Local 0 ∷ behind; derives = refl })) (λ e. absurd cc) (paren-opens 8) (λ h. h) (λ h. h),
      tt,
    ),
  ),
)

on : GoesOn front s.LargeLocal
unfolding same_front
on = inr (s.Local 0, refl, record { file = same_front; more = behind; derives = refl })

-- no place may begin there
no-place : TooDeep front s.LargeLocal → ⊥
no-place h = no-fourth 8 s.Open (s.Star ∷ []) (λ e. absurd cc) (λ j e. absurd cc) h.opens.1

below-nine : (k : ℕ) → k < 9 → Breaks front s.LargeLocal k → ⊥
below-nine k small (inl (e, h)) = h.1 on
below-nine k small (inr (inl (e, h))) = no-place h
below-nine k small (inr (inr (inl (e, h)))) = let z : s.LargeLocal ≡ s.LeftOut = h.0 in absurd cc
below-nine k small (inr (inr (inr (inl (e, h))))) = h.1
below-nine k small (inr (inr (inr (inr (e, h))))) = omega arith

no-nine : ◌≡◌ {A = ℕ} 9 4 → ⊥
no-nine e = omega arith

-- an argument begins there
an-argument : Reading front s.LargeLocal
unfolding same_front
an-argument = record { other = s.Local 0; read_as = inr (inl refl); file = same_front; more = behind; derives = refl }

pub pieces : List Piece
pieces = cut large_local

all-stand : Stand pieces []
unfolding pieces cut cut_from piece_at number_piece suffix_at
all-stand = stand_by pieces [] refl

whole : large_local ≡ text_of pieces ++ []
unfolding pieces cut cut_from piece_at number_piece suffix_at
whole = refl

pub large-local : IsReadFault large_local 9 2
unfolding pieces cut cut_from piece_at number_piece suffix_at word_token block_digits word_place an-argument same_front
large-local = inl (record {
  pieces = pieces;
  left = [];
  cut = record { whole = whole; stand = all-stand };
  before = (s.Fn, 1) ∷ (s.Name 8, 1) ∷ (s.Open, 1) ∷ [];
  at = (s.LargeLocal, 2);
  after = (s.Colon, 2) ∷ (s.Int i.U8, 2) ∷ (s.Close, 2) ∷ (s.Arrow, 2) ∷ (s.Open, 2) ∷ (s.Close, 2) ∷ (s.OpenBrace, 2) ∷ [];
  symbols = refl;
  first = none-refused front front-stands;
  refused = (inr (inr (inr (inr (refl, on)))), below-nine);
  on_line = inr ((λ e. absurd (no-nine e)), inl ((an-argument, refl), refl));
})
