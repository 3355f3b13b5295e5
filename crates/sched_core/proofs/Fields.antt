-- What stays of a core's fields where one of a row changes.
use Rattle.std.proofs.Common.{◌≡◌, ◌≢◌, ℕ, ◌<◌, ◌≤◌, Bool, true, false, List, [], ◌∷◌, length, refl, sym, subst, ap, ◌∙◌, arith, slice_index_or, slice_set}
use Rattle.std.specs.Prelude.{Option, Some, None, slice_get, Vec}
use Rattle.sched_core.specs.declared.Status.{Status}
use Rattle.sched_core.specs.declared.Status.TheVariants.{Unclaimed, Claimed, Done, Failed, Stolen}
use Rattle.sched_core.specs.declared.state.Standing.{Standing}
use Rattle.sched_core.specs.Plan.{Plan}
use Rattle.sched_core.specs.State.{State, Entry, upd, saw, settled, next_of_top}
use Rattle.sched_core.specs.Shown.{stack_of, row_at, has_given_room, Ready, Says}
use Rattle.sched_core.proofs.Upd.{upd_at}
use Rattle.sched_core.proofs.Listed.{set_same, set_else, index_same, index_else}

pub moved : (v w : ℕ) → (v ≡ w → true ≡ false) → v ≢ w
moved v w k e = let x = k e in absurd (cc)

module _ {A B : Type 0} (F : A → B → Type 0) where
  both : (a c : A) (b d : B) → a ≡ c → b ≡ d → F c d → F a b
  both a c b d e f x = subst (λ (o : A). F o b) (sym e) (subst (λ (r : B). F c r) (sym f) x)

module _ {A B : Type 0} (F : A → Option B → Type 0) (d : A) (olds : List A) (bs : List B) (w : ℕ) (a : A) (b : B) where
  -- another worker's fields stay
  pub pair_else : (v : ℕ) → v ≢ w → F (slice_index_or olds v d) (slice_get bs v) → F (slice_index_or (slice_set olds w a) v d) (slice_get (slice_set bs w b) v)
  pair_else v ne h = both F _ _ _ _ (index_else olds w v a d ne) (set_else bs w v b ne) h

  -- each worker's fields are as they are to be, and w's new ones too
  pub pair_put : w < length olds → w < length bs → ((v : ℕ) → F (slice_index_or olds v d) (slice_get bs v)) → F a (Some b)
      → (v : ℕ) → F (slice_index_or (slice_set olds w a) v d) (slice_get (slice_set bs w b) v)
  pair_put la lb h f v = upd_at (λ (u : ℕ). u) w w (λ _. F (slice_index_or (slice_set olds w a) v d) (slice_get (slice_set bs w b) v)) v
      (λ e. subst (λ (k : ℕ). F (slice_index_or (slice_set olds w a) k d) (slice_get (slice_set bs w b) k)) (sym e) (both F _ _ _ _ (index_same olds w a d la) (set_same bs w b lb) f))
      (λ ne. pair_else v ne (h v))

-- each row is as long as before
pub rows_long : {Z : Type 0} (xs : List (Vec Bool Z)) (w : ℕ) (row : Vec Bool Z) (n m : ℕ) → w < length xs → length row.items ≡ m → ((v : ℕ) → v < n → length (row_at (slice_get xs v)) ≡ m)
    → (v : ℕ) → v < n → length (row_at (slice_get (slice_set xs w row) v)) ≡ m
rows_long {Z} xs w row n m lt e h v small = upd_at (λ (u : ℕ). u) w w (λ _. length (row_at (slice_get (slice_set xs w row) v)) ≡ m) v
    (λ k. subst (λ (u : ℕ). length (row_at (slice_get (slice_set xs w row) u)) ≡ m) (sym k) (ap (λ o. length (row_at o)) (set_same xs w row lt) ∙ e))
    (λ ne. ap (λ o. length (row_at o)) (set_else xs w v row ne) ∙ h v small)

-- an empty row has room
pub ready_empty : {Z : Type 0} (p : Plan) (told : Option (Option ℕ)) (row : Vec Standing Z) → Ready p told (Some row) → row.len ≡ 0 → row.len < row.cap
ready_empty p None row h e = h e
ready_empty p (Some need) row h e = h.0

pub saw_settled : (c : State) (w q : ℕ) (s : Status) → settled s ≡ true → saw c w q s ≡ record c { wait = upd c.wait w None; seen = upd c.seen w (upd (c.seen w) q true) }
saw_settled c w q Unclaimed h = absurd (cc)
saw_settled c w q (Claimed v) h = absurd (cc)
saw_settled c w q (Done b) h = refl
saw_settled c w q Failed h = absurd (cc)
saw_settled c w q Stolen h = refl

pub saw_waits : (c : State) (w q : ℕ) (s : Status) → settled s ≡ false → s ≢ Failed → saw c w q s ≡ record c { wait = upd c.wait w (Some q) }
saw_waits c w q Unclaimed h k = refl
saw_waits c w q (Claimed v) h k = refl
saw_waits c w q (Done b) h k = absurd (cc)
saw_waits c w q Failed h k = absurd (k refl)
saw_waits c w q Stolen h k = absurd (cc)

module _ {B : Type 0} (F : ℕ → Option B → Type 0) (bs : List B) (w : ℕ) (b : B) where
  pub row_put : w < length bs → ((v : ℕ) → F v (slice_get bs v)) → F w (Some b) → (v : ℕ) → F v (slice_get (slice_set bs w b) v)
  row_put lt h f v = upd_at (λ (u : ℕ). u) w w (λ _. F v (slice_get (slice_set bs w b) v)) v
      (λ e. subst (λ (k : ℕ). F k (slice_get (slice_set bs w b) k)) (sym e) (subst (F w) (sym (set_same bs w b lt)) f))
      (λ ne. subst (F v) (sym (set_else bs w v b ne)) (h v))

pub says_of : (p : Plan) (need : Option ℕ) (root : Option ℕ) (es : List Entry) → need ≡ next_of_top p es root → Says p need es
says_of p need root [] h = tt
says_of p need root (e ∷ es) h = h

pub ready_more : {Z : Type 0} (p : Plan) (told : Option (Option ℕ)) (old new : Vec Standing Z) → new.len ≡ old.len → old.cap ≤ new.cap → stack_of new.items ≡ stack_of old.items → (has_given_room old.items → has_given_room new.items) → Ready p told (Some old) → Ready p told (Some new)
ready_more p None old new e k s r h = λ n. let m = h (omega (arith, e, n)) in omega (arith, e, k, m)
ready_more p (Some need) old new e k s r h = ((let m = h.0 in omega (arith, e, k, m)), r h.1, subst (Says p need) (sym s) h.2)
