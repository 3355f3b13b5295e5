-- Texts that pieces spell: the pieces stand together before a byte that is no name's, their symbols are known, and byte strings stand among
-- them.
use Rattle.mir_round_trip.specs.Names.{Clear}
use Rattle.std.proofs.Common.{◌≡◌, ℕ, List, [], ◌∷◌, ◌++◌, codes, refl, sym, ap, subst, ◌∙◌, append_assoc, inl, inr}
use Rattle.std.proofs.lemmas.List.{append-nil}
use Rattle.mir_text.specs.declared.symbol.Symbol.{Symbol}
use Rattle.mir_text.specs.Pieces.{Piece, text_of, Stand}
use Rattle.mir_text.specs.Symbols.{number_in}
use Rattle.mir_text.specs.Grammar.{AllOf}
use Rattle.mir_text.specs.Names.{Strings}
use Rattle.mir_text.proofs.PiecesStand.{text_of-append, stand-append}
use Rattle.mir_round_trip.specs.Known.{Holds, known_symbols}

-- the grammar's own names that a canonical text has stand at their numbers
pub record Grounded (strings : Strings) : Type 0 where
  pub inline : number_in strings (codes "inline") ≡ 0
  pub always : number_in strings (codes "always") ≡ 1
  pub never : number_in strings (codes "never") ≡ 2
  pub success : number_in strings (codes "success") ≡ 4
  pub cast : number_in strings (codes "IntToInt") ≡ 7

-- the symbols of a text, put before what follows
abbrev pub Puts : Type 0
Puts = Strings → List Symbol → List Symbol

-- the symbols of pieces are those put
abbrev pub KnownAs : List Piece → Puts → Type 0
KnownAs ps f = (strings : Strings) → Grounded strings → (rest : List Piece) → known_symbols strings (ps ++ rest) ≡ f strings (known_symbols strings rest)

-- a text that ends with a sign or a space: anything may follow
pub record Sign (text : List ℕ) (f : List Symbol → List Symbol) : Type 0 where
  pub pieces : List Piece
  pub whole : text_of pieces ≡ text
  pub stands : (left : List ℕ) → Stand pieces left
  pub known : KnownAs pieces (λ strings. f)

-- a text among whose pieces byte strings stand
pub record Spelt (text : List ℕ) (f : Puts) (names : List (List ℕ)) : Type 0 where
  pub pieces : List Piece
  pub whole : text_of pieces ≡ text
  pub stands : (left : List ℕ) → Clear left → Stand pieces left
  pub known : KnownAs pieces f
  pub holds : AllOf (Holds pieces) names

-- ---- byte strings among pieces

holds-left : (ps qs : List Piece) (bytes : List ℕ) → Holds ps bytes → Holds (ps ++ qs) bytes
holds-left [] qs bytes h = absurd h
holds-left (p ∷ ps) qs bytes (inl h) = inl h
holds-left (p ∷ ps) qs bytes (inr h) = inr (holds-left ps qs bytes h)

holds-right : (ps qs : List Piece) (bytes : List ℕ) → Holds qs bytes → Holds (ps ++ qs) bytes
holds-right [] qs bytes h = h
holds-right (p ∷ ps) qs bytes h = inr (holds-right ps qs bytes h)

pub all-map : {R : Type 0} {P Q : R → Type 0} → ((r : R) → P r → Q r) → (rs : List R) → AllOf P rs → AllOf Q rs
all-map f [] h = tt
all-map f (r ∷ rs) h = (f r h.0, all-map f rs h.1)

pub all-append : {R : Type 0} (P : R → Type 0) (rs qs : List R) → AllOf P rs → AllOf P qs → AllOf P (rs ++ qs)
all-append P [] qs h k = k
all-append P (r ∷ rs) qs h k = (h.0, all-append P rs qs h.1 k)

hold-both : (ps qs : List Piece) (ns ms : List (List ℕ)) → AllOf (Holds ps) ns → AllOf (Holds qs) ms → AllOf (Holds (ps ++ qs)) (ns ++ ms)
hold-both ps qs ns ms h k =
    all-append (Holds (ps ++ qs)) ns ms (all-map (holds-left ps qs) ns h) (all-map (holds-right ps qs) ms k)

-- ---- texts after one another

both-whole : (ps qs : List Piece) (t u : List ℕ) → text_of ps ≡ t → text_of qs ≡ u → text_of (ps ++ qs) ≡ t ++ u
both-whole ps qs t u h k = text_of-append ps qs ∙ ap (λ l. l ++ text_of qs) h ∙ ap (λ l. t ++ l) k

both-known : (ps qs : List Piece) (f g : Puts) → KnownAs ps f → KnownAs qs g → KnownAs (ps ++ qs) (λ strings rest. f strings (g strings rest))
both-known ps qs f g h k strings ground rest =
    ap (known_symbols strings) (append_assoc ps qs rest) ∙ h strings ground (qs ++ rest) ∙ ap (f strings) (k strings ground rest)

-- a sign or the like, and then a text
pub after : {t u : List ℕ} {f : List Symbol → List Symbol} {g : Puts} {ms : List (List ℕ)} → Sign t f → Spelt u g ms → Spelt (t ++ u) (λ strings rest. f (g strings rest)) ms
after {t = t} {u = u} {f = f} {g = g} {ms = ms} a b = record {
  pieces = a.pieces ++ b.pieces;
  whole = both-whole a.pieces b.pieces t u a.whole b.whole;
  stands = λ left clear. stand-append a.pieces b.pieces left (a.stands (text_of b.pieces ++ left)) (b.stands left clear);
  known = both-known a.pieces b.pieces (λ strings. f) g a.known b.known;
  holds = all-map (holds-right a.pieces b.pieces) ms b.holds;
}

-- a text, and then one that begins with no byte of a name where none follows
pub and_then : {t u : List ℕ} {f g : Puts} {ns ms : List (List ℕ)} → Spelt t f ns → ((left : List ℕ) → Clear left → Clear (u ++ left)) → Spelt u g ms
    → Spelt (t ++ u) (λ strings rest. f strings (g strings rest)) (ns ++ ms)
and_then {t = t} {u = u} {f = f} {g = g} {ns = ns} {ms = ms} a front b = record {
  pieces = a.pieces ++ b.pieces;
  whole = both-whole a.pieces b.pieces t u a.whole b.whole;
  stands = λ left clear. stand-append a.pieces b.pieces left (a.stands (text_of b.pieces ++ left) (subst (λ l. Clear (l ++ left)) (sym b.whole) (front left clear))) (b.stands left clear);
  known = both-known a.pieces b.pieces f g a.known b.known;
  holds = hold-both a.pieces b.pieces ns ms a.holds b.holds;
}

-- a sign or the like alone
pub alone : {t : List ℕ} {f : List Symbol → List Symbol} → Sign t f → Spelt t (λ strings. f) []
alone a = record { pieces = a.pieces; whole = a.whole; stands = λ left clear. a.stands left; known = a.known; holds = tt }

-- no text
pub none : Spelt [] (λ strings rest. rest) []
none = record { pieces = []; whole = refl; stands = λ left clear. tt; known = λ strings ground rest. refl; holds = tt }

-- of no concern which byte strings stand among the pieces
pub bare : {t : List ℕ} {f : Puts} {ns : List (List ℕ)} → Spelt t f ns → Spelt t f []
bare a = record { pieces = a.pieces; whole = a.whole; stands = a.stands; known = a.known; holds = tt }

-- the same symbols put in another way
pub put_as : {t : List ℕ} {f g : Puts} {ns : List (List ℕ)} → ((strings : Strings) → Grounded strings → (rest : List Symbol) → f strings rest ≡ g strings rest) → Spelt t f ns → Spelt t g ns
put_as same a = record {
  pieces = a.pieces;
  whole = a.whole;
  stands = a.stands;
  known = λ strings ground rest. a.known strings ground rest ∙ same strings ground (known_symbols strings rest);
  holds = a.holds;
}

-- ---- lines

-- a text that ends with a line feed, as an item does: anything may follow
pub record Whole (text : List ℕ) (f : Puts) (names : List (List ℕ)) : Type 0 where
  pub pieces : List Piece
  pub whole : text_of pieces ≡ text
  pub stands : (left : List ℕ) → Stand pieces left
  pub known : KnownAs pieces f
  pub holds : AllOf (Holds pieces) names

pub whole_alone : {t : List ℕ} {f : List Symbol → List Symbol} → Sign t f → Whole t (λ strings. f) []
whole_alone a = record { pieces = a.pieces; whole = a.whole; stands = a.stands; known = a.known; holds = tt }

pub whole_none : Whole [] (λ strings rest. rest) []
whole_none = record { pieces = []; whole = refl; stands = λ left. tt; known = λ strings ground rest. refl; holds = tt }

pub whole_after : {t u : List ℕ} {f : List Symbol → List Symbol} {g : Puts} {ms : List (List ℕ)} → Sign t f → Whole u g ms → Whole (t ++ u) (λ strings rest. f (g strings rest)) ms
whole_after {t = t} {u = u} {f = f} {g = g} {ms = ms} a b = record {
  pieces = a.pieces ++ b.pieces;
  whole = both-whole a.pieces b.pieces t u a.whole b.whole;
  stands = λ left. stand-append a.pieces b.pieces left (a.stands (text_of b.pieces ++ left)) (b.stands left);
  known = both-known a.pieces b.pieces (λ strings. f) g a.known b.known;
  holds = all-map (holds-right a.pieces b.pieces) ms b.holds;
}

pub whole_then : {t u : List ℕ} {f g : Puts} {ns ms : List (List ℕ)} → Spelt t f ns → ((left : List ℕ) → Clear (u ++ left)) → Whole u g ms
    → Whole (t ++ u) (λ strings rest. f strings (g strings rest)) (ns ++ ms)
whole_then {t = t} {u = u} {f = f} {g = g} {ns = ns} {ms = ms} a front b = record {
  pieces = a.pieces ++ b.pieces;
  whole = both-whole a.pieces b.pieces t u a.whole b.whole;
  stands = λ left. stand-append a.pieces b.pieces left (a.stands (text_of b.pieces ++ left) (subst (λ l. Clear (l ++ left)) (sym b.whole) (front left))) (b.stands left);
  known = both-known a.pieces b.pieces f g a.known b.known;
  holds = hold-both a.pieces b.pieces ns ms a.holds b.holds;
}

pub whole_both : {t u : List ℕ} {f g : Puts} {ns ms : List (List ℕ)} → Whole t f ns → Whole u g ms → Whole (t ++ u) (λ strings rest. f strings (g strings rest)) (ns ++ ms)
whole_both {t = t} {u = u} {f = f} {g = g} {ns = ns} {ms = ms} a b = record {
  pieces = a.pieces ++ b.pieces;
  whole = both-whole a.pieces b.pieces t u a.whole b.whole;
  stands = λ left. stand-append a.pieces b.pieces left (a.stands (text_of b.pieces ++ left)) (b.stands left);
  known = both-known a.pieces b.pieces f g a.known b.known;
  holds = hold-both a.pieces b.pieces ns ms a.holds b.holds;
}

pub whole_trim : {t : List ℕ} {f : Puts} {ns : List (List ℕ)} → Whole t f (ns ++ []) → Whole t f ns
whole_trim {t = t} {f = f} {ns = ns} a = subst (Whole t f) (append-nil ns) a
