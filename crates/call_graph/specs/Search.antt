-- What holds while components are found. No promise of a public call rests on these.
use Rattle.std.specs.Prelude.{◌≡◌, ◌≢◌, ◌⊎◌, ℕ, ◌+◌, ◌-◌, ◌*◌, ◌<◌, ◌≤◌, ◌==◌, Bool, true, false, List, [], ◌∷◌, ◌++◌, length, get_or, set, take, drop, sum_by}
use Rattle.std.specs.List.{list_any}
use Rattle.bit_rows.specs.Rows.{stands}
use Rattle.call_graph.specs.declared.components.Mark.{Mark}
use Rattle.call_graph.specs.declared.components.Mark.TheVariants.{Unseen, OnStack, Closed}
use Rattle.call_graph.specs.declared.components.Search.{Search}
use Rattle.call_graph.specs.Graph.{Graph, Reaches, listed, component_in}

-- the graph of these lists
abbrev pub graph_by : {A : Type 0} → (A → ℕ) → List (List A) → Graph
graph_by number lists = record { functions = length lists; callees = listed number lists; below = λ f g. false }

-- the search, by lists
pub record State : Type 0 where
  pub marks : List Mark
  pub looked : List ℕ
  pub component : List ℕ
  pub closed : ℕ
  pub stack : List ℕ
  pub starts : List ℕ
  pub path : List ℕ

abbrev pub state_of : Search → State
state_of s = record {
  marks = s.marks.items;
  looked = s.looked.items;
  component = s.component.items;
  closed = s.closed;
  stack = s.stack.items;
  starts = s.starts.items;
  path = s.path.items;
}

abbrev pub mark_of : State → ℕ → Mark
mark_of s f = get_or s.marks f Unseen

-- the function at a place on the stack
abbrev pub on_stack : State → ℕ → ℕ
on_stack s i = get_or s.stack i 0

-- each number is below all that come later
abbrev pub Rising : List ℕ → Type 0
Rising [] = Unit {0}
Rising (x ∷ xs) = ((y : ℕ) → stands y xs ≡ true → x < y) × Rising xs

-- no part begins behind the second place and at or before the first
abbrev pub Ahead : List ℕ → ℕ → ℕ → Type 0
Ahead starts a b = (s : ℕ) → stands s starts ≡ true → s ≤ a → s ≤ b

-- a callee of the function at a place is closed, or stands in its part or a later one
abbrev pub IsLed : State → ℕ → ℕ → Type 0
IsLed s a g = (mark_of s g ≡ Closed) ⊎ ((b : ℕ) × (mark_of s g ≡ OnStack b) × Ahead s.starts a b)

abbrev pub unseen_one : Mark → ℕ
unseen_one Unseen = 1
unseen_one (OnStack i) = 0
unseen_one Closed = 0

abbrev pub unseen : List Mark → ℕ
unseen marks = sum_by unseen_one marks

-- the lengths of the marks, of the looks and of the components
pub record IsSized (G : Graph) (s : State) : Type 0 where
  pub marks : length s.marks ≡ G.functions
  pub looked : length s.looked ≡ G.functions
  pub component : length s.component ≡ G.functions

-- the stack has the functions that are marked so, each once
pub record IsStack (G : Graph) (s : State) : Type 0 where
  pub within : (i : ℕ) → i < length s.stack → on_stack s i < G.functions
  pub marked : (i : ℕ) → i < length s.stack → mark_of s (on_stack s i) ≡ OnStack i
  pub placed : (f i : ℕ) → mark_of s f ≡ OnStack i → (i < length s.stack) × (on_stack s i ≡ f)

-- the path goes up the stack, and parts begin on it
pub record IsPath (s : State) : Type 0 where
  pub on_stack : (p : ℕ) → stands p s.path ≡ true → p < length s.stack
  pub rises : Rising s.path
  pub starts_rise : Rising s.starts
  pub starts_on : (p : ℕ) → stands p s.starts ≡ true → stands p s.path ≡ true
  pub first : 0 < length s.stack → stands 0 s.starts ≡ true

-- what was looked at: nothing of the unseen, all of those that are neither unseen nor on the path
pub record IsLooked (G : Graph) (s : State) : Type 0 where
  pub none : (f : ℕ) → mark_of s f ≡ Unseen → get_or s.looked f 0 ≡ 0
  pub most : (f : ℕ) → get_or s.looked f 0 ≤ length (G.callees f)
  pub all : (i : ℕ) → i < length s.stack → stands i s.path ≡ false → get_or s.looked (on_stack s i) 0 ≡ length (G.callees (on_stack s i))
  pub led : (i k : ℕ) → i < length s.stack → k < get_or s.looked (on_stack s i) 0 → IsLed s i (get_or (G.callees (on_stack s i)) k 0)

-- what is closed calls only what is closed, in its component or an earlier one, and in one component each reaches the other
pub record IsClosed (G : Graph) (s : State) : Type 0 where
  pub calls : (f k : ℕ) → mark_of s f ≡ Closed → k < length (G.callees f) → (mark_of s (get_or (G.callees f) k 0) ≡ Closed) × (get_or s.component (get_or (G.callees f) k 0) 0 ≤ get_or s.component f 0)
  pub both : (f g : ℕ) → mark_of s f ≡ Closed → mark_of s g ≡ Closed → get_or s.component f 0 ≡ get_or s.component g 0 → Reaches G f g
  pub below : (f : ℕ) → mark_of s f ≡ Closed → get_or s.component f 0 < s.closed

pub record IsSearch (G : Graph) (s : State) : Type 0 where
  pub sized : IsSized G s
  pub stack : IsStack G s
  pub path : IsPath s
  pub looked : IsLooked G s
  -- a function of the stack reaches those of its part and of later ones
  pub reaches : (a b : ℕ) → a < length s.stack → b < length s.stack → Ahead s.starts a b → Reaches G (on_stack s a) (on_stack s b)
  pub closed : IsClosed G s
  pub few : s.closed + length s.stack + unseen s.marks ≤ G.functions

-- ---- what a step changes

-- a function was found
abbrev pub entered : State → ℕ → State
entered s f = record s {
  marks = set s.marks f (OnStack (length s.stack));
  stack = s.stack ++ f ∷ [];
  starts = s.starts ++ length s.stack ∷ [];
  path = s.path ++ length s.stack ∷ [];
}

-- parts were joined to the one in which a place lies
pub record Joined (s t : State) (place : ℕ) : Type 0 where
  pub rest : t ≡ record s { starts = t.starts }
  pub rises : Rising t.starts
  pub kept : (p : ℕ) → stands p s.starts ≡ true → p ≤ place → stands p t.starts ≡ true
  pub old : (p : ℕ) → stands p t.starts ≡ true → (stands p s.starts ≡ true) × (p ≤ place)

-- a callee more was looked at
abbrev pub looked_more : State → ℕ → State
looked_more s f = record s { looked = set s.looked f (get_or s.looked f 0 + 1) }

-- the same value at many places
abbrev pub all_set : {A : Type 0} → List A → List ℕ → A → List A
all_set xs [] v = xs
all_set xs (i ∷ is) v = all_set (set xs i v) is v

-- the functions from a place on make up a component
abbrev pub closed_from : State → ℕ → State
closed_from s p = record s {
  marks = all_set s.marks (drop p s.stack) Closed;
  component = all_set s.component (drop p s.stack) s.closed;
  closed = s.closed + 1;
  stack = take p s.stack;
}

-- the last function of the path was left, and a component closed where a part begins with it
abbrev pub Left : State → State → ℕ → Type 0
Left s t p = (front : List ℕ) × (last : ℕ) × (s.path ≡ front ++ last ∷ []) × (
    ((starts : List ℕ) × (s.starts ≡ starts ++ p ∷ []) × (t ≡ closed_from (record s { path = front; starts = starts }) p))
    ⊎ ((get_or s.starts (length s.starts - 1) 0 ≢ p) × (t ≡ record s { path = front }))
    )

-- a callee g of f was looked at
abbrev pub LookedAt : State → State → ℕ → ℕ → Type 0
LookedAt s t f g =
    ((mark_of s g ≡ Unseen) × (t ≡ entered s g))
    ⊎ (((place : ℕ) × (u : State) × (mark_of s g ≡ OnStack place) × Joined s u place × (t ≡ looked_more u f))
    ⊎ ((mark_of s g ≡ Closed) × (t ≡ looked_more s f)))

-- who was seen stays so
abbrev pub Sees : State → State → Type 0
Sees s t = (f : ℕ) → mark_of s f ≢ Unseen → mark_of t f ≢ Unseen

-- ---- how much is left to do

abbrev pub to_look : {A : Type 0} → List (List A) → List ℕ → ℕ
to_look [] looked = 0
to_look (cs ∷ css) [] = 0
to_look (cs ∷ css) (n ∷ ns) = (length cs - n) + to_look css ns

abbrev pub work : {A : Type 0} → List (List A) → State → ℕ
work lists s = 2 * unseen s.marks + length s.path + to_look lists s.looked

-- a step was done, after which less is left
pub record Stepped {A : Type 0} (number : A → ℕ) (lists : List (List A)) (s t : State) : Type 0 where
  pub search : IsSearch (graph_by number lists) t
  pub seen : Sees s t
  pub less : work lists t < work lists s

-- ---- blocks that go round

-- a node is in the component of another
abbrev pub is_with : List ℕ → ℕ → ℕ → Bool
is_with numbers b a = component_in numbers a == component_in numbers b

-- one of those that lead to a node is in its component
abbrev pub turns : List ℕ → List (List ℕ) → ℕ → Bool
turns numbers sources b = list_any (is_with numbers b) (get_or sources b [])
