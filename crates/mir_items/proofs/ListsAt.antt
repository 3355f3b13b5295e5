-- Lists with commas are read by the grammar's rule, both ways, where what an item is read as depends on where it stands.
use Rattle.std.proofs.Common.{◌≡◌, ℕ, zero, suc, ◌<◌, true, false, List, [], ◌∷◌, ◌++◌, length, Ok, Option, Some, None, refl, sym, ap, ◌∙◌, arith, append_assoc, append-nil}
use Rattle.mir_text.specs.declared.symbol.Symbol.{Symbol}
use Rattle.mir_text.specs.declared.symbol.Symbol.TheVariants as s
use Rattle.mir_text.specs.Grammar.{Put, Items, end, last, more, items_put, AllItems}
use Rattle.mir_tree.specs.declared.Items.{Items as ItemsText}
use Rattle.mir_parse.specs.Parser.{Parse, and_then}
use Rattle.mir_parse.specs.Signs.{comma}
use Rattle.mir_parse.specs.Lists.{Closing, after_by, after_item, turn_by, turn_of, goes_on, items_from, items_at}
use Rattle.mir_parse.proofs.Laws.{in_steps, ok_same, Grows, Closes, count, ends_in_comma, after-sound}
use Rattle.mir_items.proofs.EachRead.{IsReadAt}

-- an item's parser reads what its rule puts, and nothing else, and no item begins with the sign that closes the list
pub record ItemLawsAt {R A : Type 0} (closing : Closing) (item : Parse A) (put : Put R) (of : R → List Symbol → A) (Good : R → Type 0) (sign : Symbol) : Type 0 where
  pub closes : Closes closing sign
  pub no_item : (r : R) (rest : List Symbol) → closing (put r rest) ≡ None
  pub before_comma : (r : R) (rest : List Symbol) → Good r → item (put r (s.Comma ∷ rest)) ≡ Ok (of r (put r (s.Comma ∷ rest)), s.Comma ∷ rest)
  pub before_sign : (r : R) (rest : List Symbol) → Good r → item (put r (sign ∷ rest)) ≡ Ok (of r (put r (sign ∷ rest)), sign ∷ rest)
  pub sound : (ts : List Symbol) (x : A) (rest : List Symbol) → item ts ≡ Ok (x, rest) → IsReadAt put of Good ts x rest
  pub grows : Grows put

module _ {R A : Type 0} (put : Put R) (of : R → List Symbol → A) (sign : Symbol) where
  -- what is read of the items of a list before the rest
  abbrev pub items_read : Items R → List Symbol → List A
  items_read end rest = []
  items_read (last r) rest = of r (put r (sign ∷ rest)) ∷ []
  items_read (more r rs) rest = of r (put r (s.Comma ∷ items_put put sign rs rest)) ∷ items_read rs rest

  -- the tree of a list, behind items that were read before
  abbrev pub list_behind : List A → Items R → List Symbol → ItemsText A
  list_behind before rs rest = record { items = before ++ items_read rs rest; trailing = ends_in_comma rs }

module _ {R A : Type 0} (closing : Closing) (item : Parse A) (put : Put R) (of : R → List Symbol → A) (Good : R → Type 0) (sign : Symbol) (laws : ItemLawsAt closing item put of Good sign) where
  few : (rs : Items R) (rest : List Symbol) → count rs < suc (length (items_put put sign rs rest))
  few end rest = omega arith
  few (last r) rest = omega (arith, laws.grows r (sign ∷ rest))
  few (more r rs) rest = omega (arith, laws.grows r (s.Comma ∷ items_put put sign rs rest), few rs rest)

  list_from-complete : (rs : Items R) (n : ℕ) (before : List A) (rest : List Symbol) → AllItems Good rs → count rs < n
      → items_from closing item n before (items_put put sign rs rest) ≡ Ok (list_behind put of sign before rs rest, rest)
  unfolding items_from turn_of after_item comma
  list_from-complete rs zero before rest g h = absurd (omega arith)
  list_from-complete end (suc n) before rest g h = rw (laws.closes.here rest, append-nil before) refl
  list_from-complete (last r) (suc n) before rest g h = rw (laws.no_item r (sign ∷ rest), laws.before_sign r rest g, laws.closes.here rest) refl
  list_from-complete (more r rs) (suc n) before rest g h =
      let after = s.Comma ∷ items_put put sign rs rest in
      let x = of r (put r after) in
      rw (
        laws.no_item r after,
        laws.before_comma r (items_put put sign rs rest) g.0,
        laws.closes.no_comma (items_put put sign rs rest),
        list_from-complete rs n (before ++ x ∷ []) rest g.1 (omega arith),
        append_assoc before (x ∷ []) (items_read put of sign rs rest),
      ) refl

  pub list-complete : (rs : Items R) (rest : List Symbol) → AllItems Good rs → items_at closing item (items_put put sign rs rest) ≡ Ok (list_behind put of sign [] rs rest, rest)
  list-complete rs rest g = list_from-complete rs _ [] rest g (few rs rest)

  -- a list was read behind other items
  pub record IsList (ts : List Symbol) (before : List A) (us : ItemsText A) (rest : List Symbol) : Type 0 where
    pub rule : Items R
    pub reads : list_behind put of sign before rule rest ≡ us
    pub yields : ts ≡ items_put put sign rule rest
    pub good : AllItems Good rule

  last-item : (ts past rest : List Symbol) (before : List A) (us : ItemsText A) (x : A) → IsReadAt put of Good ts x past → past ≡ sign ∷ rest
      → ◌≡◌ {A = ItemsText A} (record { items = before ++ x ∷ []; trailing = false }) us → IsList ts before us rest
  last-item ts past rest before us x first close_is e =
      let f : A → ItemsText A = λ y. record { items = before ++ y ∷ []; trailing = false } in
      let front : ts ≡ put first.rule (sign ∷ rest) = first.yields ∙ ap (put first.rule) close_is in
      record { rule = last first.rule; reads = ap f (ap (of first.rule) (sym front) ∙ first.reads) ∙ e; yields = front; good = first.good }

  more-items : (ts past after rest : List Symbol) (before : List A) (us : ItemsText A) (x : A) → IsReadAt put of Good ts x past → past ≡ s.Comma ∷ after
      → IsList after (before ++ x ∷ []) us rest → IsList ts before us rest
  more-items ts past after rest before us x first comma_is others =
      let f : List A → ItemsText A = λ ys. record { items = ys; trailing = ends_in_comma others.rule } in
      let front : ts ≡ put first.rule (s.Comma ∷ items_put put sign others.rule rest) = first.yields ∙ ap (put first.rule) (comma_is ∙ ap (λ l. s.Comma ∷ l) others.yields) in
      let tail = items_read put of sign others.rule rest in
      record {
        rule = more first.rule others.rule;
        reads =
            ap (λ y. f (before ++ y ∷ tail)) (ap (of first.rule) (sym front) ∙ first.reads)
            ∙ ap f (sym (append_assoc before (x ∷ []) tail))
            ∙ others.reads;
        yields = front;
        good = (first.good, others.good);
      }

  abbrev ListSound : ℕ → Type 0
  ListSound n = (ts : List Symbol) (before : List A) (us : ItemsText A) (rest : List Symbol) → items_from closing item n before ts ≡ Ok (us, rest) → IsList ts before us rest

  list-first : (n : ℕ) → ListSound n → (ts : List Symbol) (before : List A) (us : ItemsText A) (rest : List Symbol) (o : Option (List Symbol)) → closing ts ≡ o
      → and_then (turn_by o closing item before ts) (goes_on (items_from closing item n)) ≡ Ok (us, rest) → IsList ts before us rest
  unfolding after_item
  list-first n more_sound ts before us rest (Some past) e h =
      let same = ok_same _ _ h in
      let f : List A → ItemsText A = λ ys. record { items = ys; trailing = true } in
      record { rule = end; reads = ap f (append-nil before) ∙ ap (λ q. q.0) same; yields = laws.closes.only ts past e ∙ ap (λ q. sign ∷ q.1) same; good = tt }
  list-first n more_sound ts before us rest None e h =
      in_steps _ _ (us, rest) h (λ q after found went.
      in_steps _ _ (q, after) found (λ x past first turned.
      in_steps _ _ (q, after) turned (λ t past2 is_after same.
      let e2 = ok_same _ _ same in
      let went2 = ap (λ y. goes_on (items_from closing item n) y.0 y.1) e2 ∙ went in
      after-sound closing (closing past) past t past2 refl is_after
      (λ closed is. let e3 = ok_same _ _ (ap (λ c. goes_on (items_from closing item n) (c, before ++ x ∷ []) past2) (sym is) ∙ went2) in
      last-item ts past rest before us x (laws.sound ts x past first) (laws.closes.only past past2 closed ∙ ap (λ q. sign ∷ q.1) e3) (ap (λ q. q.0) e3))
      (λ comma_is is. more-items ts past past2 rest before us x (laws.sound ts x past first) comma_is
      (more_sound past2 (before ++ x ∷ []) us rest (ap (λ c. goes_on (items_from closing item n) (c, before ++ x ∷ []) past2) (sym is) ∙ went2))))))

  list_from-sound : (n : ℕ) → ListSound n
  unfolding items_from turn_of
  list_from-sound zero ts before us rest h = absurd cc
  list_from-sound (suc n) ts before us rest h = list-first n (list_from-sound n) ts before us rest (closing ts) refl h

  pub list-sound : (ts : List Symbol) (us : ItemsText A) (rest : List Symbol) → items_at closing item ts ≡ Ok (us, rest) → IsList ts [] us rest
  list-sound ts us rest h = list_from-sound (suc (length ts)) ts [] us rest h
