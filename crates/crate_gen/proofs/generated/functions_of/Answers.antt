use Rattle.std.proofs.Common.{◌≡◌, ◌<◌, ◌+◌, ◌-◌, ◌++◌, ◌∷◌, [], map, true, sym, ap, ap₂, subst, ◌∙◌, arith}
use Rattle.std.specs.List.{list_all}
use Rattle.std.proofs.lemmas.List.{map-append}
use Rattle.mir_syntax.specs.Crate.{function_of}
use Rattle.mir_syntax.specs.Ids.{function_below}
use Rattle.crate_gen.specs.Made.{made_function, made_functions}
use Rattle.crate_gen.proofs.Loops.{one_made, list_all_end, functions_more}
use Rattle.crate_gen.proofs.generated.functions_of.Goals as goal

pub loop-at-preserved : goal.loop-at-preserved
loop-at-preserved c =
    let i = c.loop-at.at in
    let n = c.args.count in
    let fs = c.loop-at.functions in
    let f = c.in_ok-function.field-0 in
    let x = c.loop-at.random.state in
    let y = c.draw-choice.new.random.state in
    let low : i < n = omega arith in (
      λ trees numbers flags.
          let rest = made_functions n (i + 1) (n - (i + 1)) y in
          let made : made_function i c.draw-choice.result ≡ function_of trees f = sym (c.in_ok-function.ensures.made trees numbers flags) in
          let first : made_functions n i (n - i) x ≡ function_of trees f ∷ rest =
          functions_more n n i x low ∙ ap₂ (λ d s. made_function i d ∷ made_functions n (i + 1) (n - (i + 1)) s) (sym c.draw-choice.ensures.choice) (sym c.draw-choice.ensures.after) ∙ ap (λ g. g ∷ rest) made in
          ap (λ gs. map (function_of trees) gs ++ rest) c.in_ok-push.ensures.ok
          ∙ ap (λ gs. gs ++ rest) (map-append (function_of trees) fs (f ∷ []))
          ∙ one_made (map (function_of trees) fs) (function_of trees f) rest (made_functions n 0 n c.args.start) (ap (λ gs. map (function_of trees) fs ++ gs) (sym first) ∙ c.loop-at.invariant.0 trees numbers flags),
      λ m number flag.
          subst (λ gs. list_all (function_below m) gs ≡ true) (sym c.in_ok-push.ensures.ok) (list_all_end (function_below m) fs f (c.loop-at.invariant.1 m number flag) (c.in_ok-function.ensures.ids m number flag)),
    )
