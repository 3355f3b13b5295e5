-- The bodies that the code takes of those that are lent.
use Rattle.std.proofs.Common.{◌≡◌, refl, sym, ap, ◌∙◌, ℕ, Bool, List, map, Option, Some, None, option_map, slice_get}
use Rattle.std.proofs.lemmas.Option.{slice_get-map}
use Rattle.mir_syntax.specs.declared.body.Body.{Body}
use Rattle.mir_syntax.specs.declared.body.Function.{Function}
use Rattle.mir_syntax.specs.Tree.{Tree}
use Rattle.mir_syntax.specs.Crate.{TypedBody, Crate, body_of, function_of}
use Rattle.mir_syntax.proofs.Binds.{some_bind, bind_gone}
use Rattle.inline_pass.specs.Takes.{takes, if_taken, taken_of}

module _ (trees : List Tree) (fs : List Function) (C : Crate) (is : C.functions ≡ map (function_of trees) fs) (large : Bool) (lent : ℕ → Option Body) (qualifies : ℕ → Bool) (g : ℕ) where
  abbrev Taken : Option TypedBody
  Taken = taken_of C large (λ g. option_map (body_of trees) (lent g)) qualifies g

  pub no_function : None ≡ slice_get fs g → None ≡ Taken
  no_function e = sym (bind_gone (slice_get C.functions g) _ (ap (λ fs. slice_get fs g) is ∙ slice_get-map (function_of trees) fs g ∙ ap (option_map (function_of trees)) (sym e)))

  module _ (f : Function) (there : Some f ≡ slice_get fs g) where
    found : slice_get C.functions g ≡ Some (function_of trees f)
    found = ap (λ fs. slice_get fs g) is ∙ slice_get-map (function_of trees) fs g ∙ ap (option_map (function_of trees)) (sym there)

    pub no_body : None ≡ lent g → None ≡ Taken
    no_body e = sym (some_bind _ found (bind_gone (option_map (body_of trees) (lent g)) _ (ap (option_map (body_of trees)) (sym e))))

    -- given the answers of the code: whether the function qualifies, and whether the body is taken
    pub taken_if : (h : Body) → Some h ≡ lent g → (free b : Bool) → free ≡ qualifies g → b ≡ takes large f.inline free (body_of trees h) → if_taken b (body_of trees h) ≡ Taken
    taken_if h e free b k q =
        ap (λ b. if_taken b (body_of trees h)) (q ∙ ap (λ (free : Bool). takes large f.inline free (body_of trees h)) k)
        ∙ sym (some_bind _ found (some_bind _ (ap (option_map (body_of trees)) (sym e)) refl))
