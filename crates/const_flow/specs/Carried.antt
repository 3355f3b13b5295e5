-- A lattice of facts by other names for them keeps the laws: proofs alone, of the law that `solve` asks for.
use Rattle.std.proofs.Common.{◌≡◌, sym, ap, ◌∙◌, subst, ℕ}
use Rattle.flow_engine.specs.Flow.{Lawful}

-- two names for the same facts, each made of the other
pub record IsNaming {A B : Type 0} (OkA : A → Type 0) (OkB : B → Type 0) (read : A → B) (written : B → A) : Type 0 where
  pub read_ok : (x : A) → OkA x → OkB (read x)
  pub written_ok : (y : B) → OkB y → OkA (written y)
  pub read_written : (y : B) → OkB y → read (written y) ≡ y
  pub written_read : (x : A) → OkA x → written (read x) ≡ x

abbrev pub BelowAs : {A B : Type 0} → (A → Type 0) → (B → B → Type 0) → (A → B) → A → A → Type 0
BelowAs OkA Below read x y = (OkA x × OkA y) × Below (read x) (read y)

abbrev pub joined_as : {A B : Type 0} → (A → B) → (B → A) → (B → B → B) → A → A → A
joined_as read written join x y = written (join (read x) (read y))

abbrev pub started_as : {A B : Type 0} → (B → A) → (ℕ → B) → ℕ → A
started_as written start b = written (start b)

abbrev pub sent_as : {A B : Type 0} → (A → B) → (B → A) → (ℕ → B → B) → ℕ → A → A
sent_as read written flow i x = written (flow i (read x))

abbrev pub rank_as : {A B : Type 0} → (A → B) → (B → ℕ) → A → ℕ
rank_as read rank x = rank (read x)

module _ {A B : Type 0} (OkA : A → Type 0) (OkB : B → Type 0) (read : A → B) (written : B → A) (naming : IsNaming OkA OkB read written) (Below : B → B → Type 0) (rank : B → ℕ) (height : ℕ) (start : ℕ → B) (join : B → B → B) (flow : ℕ → B → B) (l : Lawful OkB Below rank height start join flow) where
  join_made : (x y : A) → OkA x → OkA y → read (joined_as read written join x y) ≡ join (read x) (read y)
  join_made x y k m = naming.read_written (join (read x) (read y)) (l.join_ok (read x) (read y) (naming.read_ok x k) (naming.read_ok y m))

  join_kept : (x y : A) → OkA x → OkA y → OkA (joined_as read written join x y)
  join_kept x y k m = naming.written_ok (join (read x) (read y)) (l.join_ok (read x) (read y) (naming.read_ok x k) (naming.read_ok y m))

  flow_made : (i : ℕ) (x : A) → OkA x → read (sent_as read written flow i x) ≡ flow i (read x)
  flow_made i x k = naming.read_written (flow i (read x)) (l.flow_ok i (read x) (naming.read_ok x k))

  flow_kept : (i : ℕ) (x : A) → OkA x → OkA (sent_as read written flow i x)
  flow_kept i x k = naming.written_ok (flow i (read x)) (l.flow_ok i (read x) (naming.read_ok x k))

  pub carried_lawful : Lawful OkA (BelowAs OkA Below read) (rank_as read rank) height (started_as written start) (joined_as read written join) (sent_as read written flow)
  carried_lawful = record {
    same = λ x k. ((k, k), l.same (read x) (naming.read_ok x k));
    then_below = λ x y z p q. ((p.0.0, q.0.1), l.then_below (read x) (read y) (read z) p.1 q.1);
    join_ok = join_kept;
    left = λ x y k m. ((k, join_kept x y k m), subst (Below (read x)) (sym (join_made x y k m)) (l.left (read x) (read y) (naming.read_ok x k) (naming.read_ok y m)));
    right = λ x y k m. ((m, join_kept x y k m), subst (Below (read y)) (sym (join_made x y k m)) (l.right (read x) (read y) (naming.read_ok x k) (naming.read_ok y m)));
    least = λ x y z k m p q. ((join_kept x y k m, p.0.1), subst (λ v. Below v (read z)) (sym (join_made x y k m)) (l.least (read x) (read y) (read z) (naming.read_ok x k) (naming.read_ok y m) p.1 q.1));
    rank_below = λ x y p. l.rank_below (read x) (read y) p.1;
    rank_same = λ x y p e. sym (naming.written_read x p.0.0) ∙ ap written (l.rank_same (read x) (read y) p.1 e) ∙ naming.written_read y p.0.1;
    rank_high = λ x k. l.rank_high (read x) (naming.read_ok x k);
    start_ok = λ b. naming.written_ok (start b) (l.start_ok b);
    flow_ok = flow_kept;
    flow_below = λ i x y k m p. ((flow_kept i x k, flow_kept i y m), subst (λ v. Below v (read (sent_as read written flow i y))) (sym (flow_made i x k)) (subst (Below (flow i (read x))) (sym (flow_made i y m)) (l.flow_below i (read x) (read y) (naming.read_ok x k) (naming.read_ok y m) p.1)));
  }
