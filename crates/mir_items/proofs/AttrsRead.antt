-- Parsing attributes and `drop` is the grammar's rule, both ways.
use Rattle.std.proofs.Common.{◌≡◌, Bool, true, false, ◌==◌, List, [], ◌∷◌, Ok, refl, sym, ap, subst, ◌∙◌}
use Rattle.std.proofs.lemmas.Bool.{eqb-true}
use Rattle.mir_syntax.specs.declared.body.Inline.{Inline}
use Rattle.mir_syntax.specs.declared.body.Inline.TheVariants as i
use Rattle.mir_text.specs.declared.symbol.Symbol.{Symbol}
use Rattle.mir_text.specs.declared.symbol.Symbol.TheVariants as s
use Rattle.mir_text.specs.GrammarItems as m
use Rattle.mir_text.specs.GrammarItems.{AttrRule, attr_put, drop_put}
use Rattle.mir_tree.specs.Rules.{attr_rule}
use Rattle.mir_parse.specs.Signs.{close, open_bracket, close_bracket, this_name}
use Rattle.mir_parse.proofs.Laws.{in_steps, ok_same, on, IsRead, close-sound, open_bracket-sound, close_bracket-sound, this_name-sound}
use Rattle.mir_items.specs.Attrs.{wish, wish_end, attr_end, attr, drop_at}

abbrev pub attr_text : AttrRule → Inline
attr_text m.none = i.Plain
attr_text m.hint = i.Hint
attr_text m.always = i.Always
attr_text m.never = i.Never

pub attr_rule-back : (r : AttrRule) → attr_rule (attr_text r) ≡ r
attr_rule-back m.none = refl
attr_rule-back m.hint = refl
attr_rule-back m.always = refl
attr_rule-back m.never = refl

-- no attribute begins
abbrev pub NoAttr : List Symbol → Type 0
NoAttr rest = attr rest ≡ Ok (i.Plain, rest)

pub attr-complete : (r : AttrRule) (rest : List Symbol) → NoAttr rest → attr (attr_put r rest) ≡ Ok (attr_text r, rest)
unfolding attr attr_end wish_end wish close open_bracket close_bracket this_name
attr-complete m.none rest none = none
attr-complete m.hint rest none = refl
attr-complete m.always rest none = refl
attr-complete m.never rest none = refl

abbrev AttrGood : AttrRule → Type 0
AttrGood r = Unit {0}

abbrev IsAttr : List Symbol → Inline → List Symbol → Type 0
IsAttr = IsRead attr_put attr_text AttrGood

-- what stands between `inline` and the bracket that closes
data IsWish (w : Inline) (ts rest : List Symbol) : Type 0 where
  hint : w ≡ i.Hint → ts ≡ rest → IsWish w ts rest
  always : w ≡ i.Always → ts ≡ s.Open ∷ s.Name 1 ∷ s.Close ∷ rest → IsWish w ts rest
  never : w ≡ i.Never → ts ≡ s.Open ∷ s.Name 2 ∷ s.Close ∷ rest → IsWish w ts rest

wish-sound : {R : Type 0} (ts : List Symbol) (w : Inline) (rest : List Symbol) → wish ts ≡ Ok (w, rest)
    → (w ≡ i.Always → ts ≡ s.Name 1 ∷ rest → R) → (w ≡ i.Never → ts ≡ s.Name 2 ∷ rest → R) → R
unfolding wish
wish-sound [] w rest h always_k never_k = absurd cc
wish-sound (s.Name n ∷ ts) w rest h always_k never_k = on (n == 1)
    (λ e. let same = ok_same _ _ (rw e at h) in always_k (sym (ap (λ q. q.0) same)) (ap (λ x. s.Name x ∷ ts) (eqb-true n 1 e) ∙ ap (λ q. s.Name 1 ∷ q.1) same))
    (λ e. let h1 = rw e at h in on (n == 2)
    (λ e2. let same = ok_same _ _ (rw e2 at h1) in never_k (sym (ap (λ q. q.0) same)) (ap (λ x. s.Name x ∷ ts) (eqb-true n 2 e2) ∙ ap (λ q. s.Name 2 ∷ q.1) same))
    (λ e2. let h2 = rw e2 at h1 in absurd cc))
wish-sound (x ∷ ts) w rest h always_k never_k = absurd cc

hint_only : (ts : List Symbol) (w : Inline) (rest : List Symbol) → ◌≡◌ {A = Inline × List Symbol} (i.Hint, ts) (w, rest) → IsWish w ts rest
hint_only ts w rest same = hint (sym (ap (λ q. q.0) same)) (ap (λ q. q.1) same)

wish_end-sound : (ts : List Symbol) (w : Inline) (rest : List Symbol) → wish_end ts ≡ Ok (w, rest) → IsWish w ts rest
unfolding wish_end
wish_end-sound [] w rest h = hint_only [] w rest (ok_same _ _ h)
wish_end-sound (s.Open ∷ ts) w rest h =
    in_steps _ _ (w, rest) h (λ v past wished went.
    in_steps _ _ (w, rest) went (λ nothing over closed same_h.
    let same = ok_same _ _ same_h in
    let end : past ≡ s.Close ∷ rest = close-sound past (nothing, over) closed ∙ ap (λ q. s.Close ∷ q.1) same in
    let value : w ≡ v = sym (ap (λ q. q.0) same) in
    wish-sound ts v past wished
    (λ is stands. always (value ∙ is) (ap (λ l. s.Open ∷ l) (stands ∙ ap (λ l. s.Name 1 ∷ l) end)))
    (λ is stands. never (value ∙ is) (ap (λ l. s.Open ∷ l) (stands ∙ ap (λ l. s.Name 2 ∷ l) end)))))
wish_end-sound (x ∷ ts) w rest h = hint_only (x ∷ ts) w rest (ok_same _ _ h)

attr_by : (w : Inline) (ts past rest : List Symbol) → IsWish w ts past → past ≡ s.CloseBracket ∷ rest → IsAttr (s.Hash ∷ s.OpenBracket ∷ s.Name 0 ∷ ts) w rest
attr_by w ts past rest (hint is stands) e =
    record { rule = m.hint; reads = sym is; yields = ap (λ l. s.Hash ∷ s.OpenBracket ∷ s.Name 0 ∷ l) (stands ∙ e); good = tt }
attr_by w ts past rest (always is stands) e =
    record { rule = m.always; reads = sym is; yields = ap (λ l. s.Hash ∷ s.OpenBracket ∷ s.Name 0 ∷ l) (stands ∙ ap (λ l. s.Open ∷ s.Name 1 ∷ s.Close ∷ l) e); good = tt }
attr_by w ts past rest (never is stands) e =
    record { rule = m.never; reads = sym is; yields = ap (λ l. s.Hash ∷ s.OpenBracket ∷ s.Name 0 ∷ l) (stands ∙ ap (λ l. s.Open ∷ s.Name 2 ∷ s.Close ∷ l) e); good = tt }

no_attr : (ts : List Symbol) (w : Inline) (rest : List Symbol) → ◌≡◌ {A = Inline × List Symbol} (i.Plain, ts) (w, rest) → IsAttr ts w rest
no_attr ts w rest same = record { rule = m.none; reads = ap (λ q. q.0) same; yields = ap (λ q. q.1) same; good = tt }

attr_end-sound : (ts : List Symbol) (w : Inline) (rest : List Symbol) → attr_end ts ≡ Ok (w, rest) → IsAttr (s.Hash ∷ ts) w rest
unfolding attr_end
attr_end-sound ts w rest h =
    in_steps _ _ (w, rest) h (λ a past opened went.
    in_steps _ _ (w, rest) went (λ b over named went2.
    in_steps _ _ (w, rest) went2 (λ v after wished went3.
    in_steps _ _ (w, rest) went3 (λ c last closed same_h.
    let same = ok_same _ _ same_h in
    let front : ts ≡ s.OpenBracket ∷ s.Name 0 ∷ over = open_bracket-sound ts (a, past) opened ∙ ap (λ l. s.OpenBracket ∷ l) (this_name-sound 0 past (b, over) named) in
    let P : Inline × List Symbol → Type 0 = λ y. IsAttr (s.Hash ∷ ts) y.0 y.1 in
    subst P same (subst (λ l. IsAttr (s.Hash ∷ l) v last) (sym front)
    (attr_by v over after last (wish_end-sound over v after wished) (close_bracket-sound after (c, last) closed)))))))

pub attr-sound : (ts : List Symbol) (w : Inline) (rest : List Symbol) → attr ts ≡ Ok (w, rest) → IsAttr ts w rest
unfolding attr
attr-sound [] w rest h = no_attr [] w rest (ok_same _ _ h)
attr-sound (s.Hash ∷ ts) w rest h =
    in_steps _ _ (w, rest) h (λ v past found same_h.
    let P : Inline × List Symbol → Type 0 = λ y. IsAttr (s.Hash ∷ ts) y.0 y.1 in
    subst P (ok_same _ _ same_h) (attr_end-sound ts v past found))
attr-sound (x ∷ ts) w rest h = no_attr (x ∷ ts) w rest (ok_same _ _ h)

-- ---- `drop`

-- no `drop` comes first
abbrev pub NoDrop : List Symbol → Type 0
NoDrop rest = drop_at rest ≡ (false, rest)

pub drop-complete : (is : Bool) (rest : List Symbol) → NoDrop rest → drop_at (drop_put is rest) ≡ (is, rest)
unfolding drop_at
drop-complete true rest none = refl
drop-complete false rest none = none

pub drop-sound : (ts : List Symbol) → ts ≡ drop_put (drop_at ts).0 (drop_at ts).1
unfolding drop_at
drop-sound [] = refl
drop-sound (s.Drop ∷ ts) = refl
drop-sound (x ∷ ts) = refl
