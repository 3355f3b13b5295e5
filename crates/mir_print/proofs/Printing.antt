-- Printing one text after another.
use Rattle.std.proofs.Common.{Bool, true, false, ◌≡◌, ℕ, zero, suc, ◌+◌, ◌≤◌, List, [], ◌∷◌, ◌++◌, length, take, Ok, Err, None, Some, refl, sym, ap, subst, ◌∙◌, arith, append_assoc, length-append}
use Rattle.std.specs.declared.option.Option.{Option}
use Rattle.std.specs.Io.KnownBytes.{Appends, append_known}
use Rattle.std.proofs.lemmas.List.{append-nil, append_cancel_left}
use Rattle.std.proofs.Math.Seq.{take-append-add}
use Rattle.pipe_io.specs.Causes.{AppendsFront, Rose}
use Rattle.pipe_io.specs.declared.traits.Failed.{Failed}
use Rattle.mir_print.specs.Prints.{Prints, Waiting, At, Printed, Goes, at, counted}

-- a front of a text is a front of a longer one
take_front : (s t : List ℕ) (n : ℕ) → (m : ℕ) × (take m (s ++ t) ≡ take n s)
take_front [] t zero = (0, refl)
take_front [] t (suc n) = (0, refl)
take_front (x ∷ s) t zero = (0, refl)
take_front (x ∷ s) t (suc n) = let p = take_front s t n in (suc p.0, ap (λ l. x ∷ l) p.1)

pub front_longer : (old new : Option (List ℕ)) (s t : List ℕ) → AppendsFront old new s → AppendsFront old new (s ++ t)
front_longer old new s t f =
    let p = take_front s t f.0 in
    (p.0, rw p.1 f.1)

pub appends_both : (a b c : Option (List ℕ)) (s t : List ℕ) → Appends a b s → Appends b c t → Appends a c (s ++ t)
appends_both None b c s t h k = tt
appends_both (Some xs) None c s t h k = absurd h
appends_both (Some xs) (Some ys) None s t h k = absurd k
appends_both (Some xs) (Some ys) (Some zs) s t h k = rw (k, h) (append_assoc xs s t)

pub front_past : (a b c : Option (List ℕ)) (s t : List ℕ) → Appends a b s → AppendsFront b c t → AppendsFront a c (s ++ t)
front_past a b c s t h f = (length s + f.0, rw (take-append-add s t f.0) (appends_both a b c s (take f.0 t) h f.1))

-- one text after another
pub goes_then : {a b c : At} {s t : List ℕ} → Goes a b s → Goes b c t → Goes a c (s ++ t)
goes_then {a} {b} {c} {s} {t} h k =
    record {
      behind = λ start before done p.
          let q = k.behind start before (done ++ s) (h.behind start before done p) in
          rw (← append_assoc done s t) q;
    }

-- what waits behind known bytes
waits_more : (start known : Option (List ℕ)) (bytes s done : List ℕ) → Appends start (append_known known bytes) done → Appends start (append_known known (bytes ++ s)) (done ++ s)
waits_more None known bytes s done h = tt
waits_more (Some xs) None bytes s done h = absurd h
waits_more (Some xs) (Some ys) bytes s done h = rw (← append_assoc ys bytes s, h) (append_assoc xs done s)

-- a text is counted behind another
count_more : (n m : ℕ) (done s : List ℕ) → n ≡ counted 0 done → m ≡ counted n s → m ≡ counted 0 (done ++ s)
count_more n m done s h k = omega (arith, h, k, length-append done s)

-- a text that waits is printed
pub goes_kept : {written : Option (List ℕ)} {faults : ℕ} {old new : Waiting} {s : List ℕ} → new.bytes ≡ old.bytes ++ s → new.going ≡ old.going → new.count ≡ counted old.count s
    → Goes (at written faults old) (at written faults new) s
goes_kept {written} {faults} {old} {new} {s} more same count =
    record {
      behind = λ start before done p.
          record {
            front = front_longer start written done s p.front;
            whole = λ on. let w = p.whole (sym same ∙ on) in (rw more (waits_more start written old.bytes s done w.0), w.1);
            cause = λ off. p.cause (sym same ∙ off);
            count = count_more old.count new.count done s p.count count;
          };
    }

-- after a write that failed nothing changes
pub goes_stopped : {written : Option (List ℕ)} {faults : ℕ} {old new : Waiting} {s : List ℕ} → old.going ≡ false → new.going ≡ false → new.count ≡ counted old.count s
    → Goes (at written faults old) (at written faults new) s
goes_stopped {written} {faults} {old} {new} {s} off still count =
    record {
      behind = λ start before done p.
          record {
            front = front_longer start written done s p.front;
            whole = λ on. let never : true ≡ false = sym on ∙ still in absurd cc;
            cause = λ _. p.cause off;
            count = count_more old.count new.count done s p.count count;
          };
    }

-- bytes that are written behind what was printed, where what waited is written first
sent_whole : (start old new : Option (List ℕ)) (bytes s done : List ℕ) → Appends start (append_known old bytes) done → Appends old new (bytes ++ s) → Appends start (append_known new []) (done ++ s)
sent_whole None old new bytes s done h k = tt
sent_whole (Some xs) None new bytes s done h k = absurd h
sent_whole (Some xs) (Some ys) None bytes s done h k = absurd k
sent_whole (Some xs) (Some ys) (Some zs) bytes s done h k = rw (append-nil zs, k, ← append_assoc ys bytes s, h) (append_assoc xs done s)

front_moves : (front bytes done s : List ℕ) (k : ℕ) → front ++ bytes ≡ done → take (length front + k) (done ++ s) ≡ front ++ take k (bytes ++ s)
front_moves front bytes done s k split = rw (← split, append_assoc front bytes s) (take-append-add front (bytes ++ s) k)

sent_front : (start old new : Option (List ℕ)) (bytes s done : List ℕ) → AppendsFront start old done → Appends start (append_known old bytes) done → AppendsFront old new (bytes ++ s) → AppendsFront start new (done ++ s)
sent_front None old new bytes s done f h k = (0, tt)
sent_front (Some xs) None new bytes s done f h k = absurd h
sent_front (Some xs) (Some ys) None bytes s done f h k = absurd k.1
sent_front (Some xs) (Some ys) (Some zs) bytes s done f h k =
    let front = take f.0 done in
    let split : front ++ bytes ≡ done = append_cancel_left xs (front ++ bytes) done (sym (append_assoc xs front bytes) ∙ ap (λ l. l ++ bytes) (sym f.1) ∙ h) in
    (length front + k.0, rw (front_moves front bytes done s k.0 split, k.1, f.1) (append_assoc xs front (take k.0 (bytes ++ s))))

-- what waited and a text are written, or a front of them
pub goes_sent : {old new : Option (List ℕ)} {x y : ℕ} {from to : Waiting} {s : List ℕ} → from.going ≡ true → to.bytes ≡ [] → to.count ≡ counted from.count s
    → (to.going ≡ true → Appends old new (from.bytes ++ s) × (y ≡ x)) → (to.going ≡ false → Rose x y × (x ≤ y)) → AppendsFront old new (from.bytes ++ s)
    → Goes (at old x from) (at new y to) s
goes_sent {old} {new} {x} {y} {from} {to} {s} on none count sent stopped front =
    record {
      behind = λ start before done p.
          let w = p.whole on in
          record {
            front = sent_front start old new from.bytes s done p.front w.0 front;
            whole = λ still. rw none (sent_whole start old new from.bytes s done w.0 (sent still).0, (sent still).1 ∙ w.1);
            cause = λ off. rw (← w.1) (stopped off);
            count = count_more from.count to.count done s p.count count;
          };
    }

-- a text was written where nothing waited, or a front of it
pub goes_passed : {old new : Option (List ℕ)} {x y : ℕ} {from to : Waiting} {s : List ℕ} {g : Bool} → from.going ≡ true → from.bytes ≡ [] → to ≡ record { going = g; bytes = []; count = counted from.count s }
    → (g ≡ true → Appends old new s × (y ≡ x)) → (g ≡ false → Rose x y × (x ≤ y)) → AppendsFront old new s
    → Goes (at old x from) (at new y to) s
goes_passed {old} {new} {x} {y} {from} {to} {s} {g} on none same sent stopped front =
    rw same (goes_sent {to = record { going = g; bytes = []; count = counted from.count s }} on refl refl (rw none sent) stopped (rw none front))

-- what waited was written, or a front of it
pub goes_flushed : {old new : Option (List ℕ)} {x y : ℕ} {from to : Waiting} {g : Bool} → from.going ≡ true → to ≡ record { going = g; bytes = []; count = counted from.count [] }
    → (g ≡ true → Appends old new from.bytes × (y ≡ x)) → (g ≡ false → Rose x y × (x ≤ y)) → AppendsFront old new from.bytes
    → Goes (at old x from) (at new y to) []
goes_flushed {old} {new} {x} {y} {from} {to} {g} on same sent stopped front =
    let e = append-nil from.bytes in
    rw same (goes_sent {to = record { going = g; bytes = []; count = counted from.count [] }} {s = []} on refl refl (rw e sent) stopped (rw e front))

-- ---- from the start to the end

starts_here : (w : Option (List ℕ)) (f : ℕ) → Printed w f [] (at w f (record { going = true; bytes = []; count = 0 }))
starts_here None f = record { front = (0, tt); whole = λ _. (tt, refl); cause = λ off. absurd cc; count = refl }
starts_here (Some xs) f = record { front = (0, sym (append-nil xs)); whole = λ _. (refl, refl); cause = λ off. absurd cc; count = refl }

-- the whole text was printed and nothing waits
ends_whole : (old new : Option (List ℕ)) (t : List ℕ) → Appends old (append_known new []) t → Appends old new t
ends_whole None new t h = tt
ends_whole (Some xs) None t h = absurd h
ends_whole (Some xs) (Some ys) t h = sym (append-nil ys) ∙ h

pub prints_whole : {a b : Option (List ℕ)} {x y : ℕ} {t : List ℕ} {to : Waiting} → Goes (at a x (record { going = true; bytes = []; count = 0 })) (at b y to) t → to.going ≡ true → to.bytes ≡ [] → Prints a b x y t (Ok tt)
prints_whole {a} {b} {x} {y} {t} {to} g on none =
    let p = g.behind a x [] (starts_here a x) in
    let w = p.whole on in
    record { whole = ends_whole a b t (let h = w.0 in rw (← none) h); front = p.front; cause = record { later = omega (arith, w.1); failed = tt; kept = w.1 } }

pub prints_front : {a b : Option (List ℕ)} {x y : ℕ} {t : List ℕ} {from to : Waiting} {e : Failed} → from ≡ record { going = true; bytes = []; count = 0 } → Goes (at a x from) (at b y to) t
    → to.going ≡ false → Prints a b x y t (Err e)
prints_front {a} {b} {x} {y} {t} {from} {to} {e} same g off =
    let start : Goes (at a x (record { going = true; bytes = []; count = 0 })) (at b y to) t = subst (λ w. Goes (at a x w) (at b y to) t) same g in
    let p = start.behind a x [] (starts_here a x) in
    let c = p.cause off in
    record { whole = tt; front = p.front; cause = record { later = c.1; failed = c.0; kept = tt } }

pub goes_nothing : {a : At} → Goes a a []
goes_nothing {a} = record { behind = λ start before done p. rw (append-nil done) p }

-- a text, and then nothing more
pub goes_ended : {a b c : At} {s : List ℕ} → Goes a b s → Goes b c [] → Goes a c s
goes_ended {a} {b} {c} {s} h k = rw (← append-nil s) (goes_then h k)

-- what was printed from the start is counted
pub goes_counted : {a b : Option (List ℕ)} {x y : ℕ} {t : List ℕ} {from to : Waiting} → from ≡ record { going = true; bytes = []; count = 0 } → Goes (at a x from) (at b y to) t
    → to.count ≡ counted 0 t
goes_counted {a} {b} {x} {y} {t} {from} {to} same g =
    let start : Goes (at a x (record { going = true; bytes = []; count = 0 })) (at b y to) t = subst (λ w. Goes (at a x w) (at b y to) t) same g in
    (start.behind a x [] (starts_here a x)).count
