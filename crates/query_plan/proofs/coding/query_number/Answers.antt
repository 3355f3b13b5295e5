use Rattle.std.proofs.Common.{◌≡◌, ◌+◌, ◌*◌, sym, ap, ◌∙◌, arith}
use Rattle.query_plan.specs.declared.kind.Kind.{Kind}
use Rattle.query_plan.specs.declared.kind.Kind.TheVariants as kind
use Rattle.query_plan.specs.Needs.{query}
use Rattle.query_plan.proofs.coding.query_number.Goals as goal

pub returns-in-Built : goal.returns-in-Built
unfolding query
returns-in-Built c = (let e : c.args.f.0 ≡ query c.args.functions kind.Built c.args.f.0 = omega arith in e) ∙ ap (λ (k : Kind). query c.args.functions k c.args.f.0) (sym c.in-Built.is)

pub returns-in-Qualif : goal.returns-in-Qualif
unfolding query
returns-in-Qualif c = (let e : c.args.functions + c.args.f.0 ≡ query c.args.functions kind.Qualif c.args.f.0 = omega arith in e) ∙ ap (λ (k : Kind). query c.args.functions k c.args.f.0) (sym c.in-Qualif.is)

pub returns-in-Prom : goal.returns-in-Prom
unfolding query
returns-in-Prom c = (let e : 2 * c.args.functions + c.args.f.0 ≡ query c.args.functions kind.Prom c.args.f.0 = omega arith in e) ∙ ap (λ (k : Kind). query c.args.functions k c.args.f.0) (sym c.in-Prom.is)

pub returns-in-Callees : goal.returns-in-Callees
unfolding query
returns-in-Callees c = (let e : 3 * c.args.functions + c.args.f.0 ≡ query c.args.functions kind.Callees c.args.f.0 = omega arith in e) ∙ ap (λ (k : Kind). query c.args.functions k c.args.f.0) (sym c.in-Callees.is)

pub returns-in-Cost : goal.returns-in-Cost
unfolding query
returns-in-Cost c = (let e : 4 * c.args.functions + c.args.f.0 ≡ query c.args.functions kind.Cost c.args.f.0 = omega arith in e) ∙ ap (λ (k : Kind). query c.args.functions k c.args.f.0) (sym c.in-Cost.is)

pub returns-in-Reach : goal.returns-in-Reach
unfolding query
returns-in-Reach c = (let e : 5 * c.args.functions + c.args.f.0 ≡ query c.args.functions kind.Reach c.args.f.0 = omega arith in e) ∙ ap (λ (k : Kind). query c.args.functions k c.args.f.0) (sym c.in-Reach.is)

pub returns-in-Elab : goal.returns-in-Elab
unfolding query
returns-in-Elab c = (let e : 6 * c.args.functions + c.args.f.0 ≡ query c.args.functions kind.Elab c.args.f.0 = omega arith in e) ∙ ap (λ (k : Kind). query c.args.functions k c.args.f.0) (sym c.in-Elab.is)

pub returns-in-Opt : goal.returns-in-Opt
unfolding query
returns-in-Opt c = (let e : 7 * c.args.functions + c.args.f.0 ≡ query c.args.functions kind.Opt c.args.f.0 = omega arith in e) ∙ ap (λ (k : Kind). query c.args.functions k c.args.f.0) (sym c.in-Opt.is)
