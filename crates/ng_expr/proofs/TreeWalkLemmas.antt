-- The walk over a tree's nodes finds the tree's value.
use Rattle.std.proofs.Common.{ℕ, ◌+◌, ◌<◌, ◌≤◌, ◌≡◌, ℤ, List, [], ◌∷◌, ◌++◌, Result, Ok, Err, refl, sym, ap, ◌∙◌, append_assoc, length, drop, get_or}
use Rattle.std.proofs.lemmas.List.{append-nil, drop_more, drop_all}
use Rattle.ng_num.specs.declared.fault.Fault.{Fault}
use Rattle.ng_words.specs.Grammar.{Tree, number, parameter, bracketed, applied, joined}
use Rattle.ng_words.specs.LineStorage.{postfix, IsTree, tree_by}
use Rattle.ng_words.specs.declared.tree.Node.{Node}
use Rattle.ng_words.specs.declared.tree.Node.TheVariants as node
use Rattle.ng_words.proofs.LineStorageLemmas.{tree_by-postfix}
use Rattle.ng_num.specs.Results.{and_then}
use Rattle.ng_expr.specs.Value.{written, parameter_value, apply, join, value}
use Rattle.ng_expr.specs.Private.Walk.{onto, after_node, after_nodes}

-- going on after a value was pushed is going on with the value
go_on : (found : List ℤ) (r : Result ℤ Fault) (g : List ℤ → Result (List ℤ) Fault) → and_then (onto found r) g ≡ and_then r (λ z. g (z ∷ found))
go_on found (Ok z) g = refl
go_on found (Err e) g = refl

go_on_one : (found : List ℤ) (r : Result ℤ Fault) (f : ℤ → Result ℤ Fault) (g : List ℤ → Result (List ℤ) Fault)
    → and_then r (λ z. and_then (onto found (f z)) g) ≡ and_then (and_then r f) (λ z. g (z ∷ found))
go_on_one found (Ok z) f g = go_on found (f z) g
go_on_one found (Err e) f g = refl

go_on_two : (found : List ℤ) (x y : Result ℤ Fault) (f : ℤ → ℤ → Result ℤ Fault) (g : List ℤ → Result (List ℤ) Fault) (k : ℤ → Result (List ℤ) Fault)
    → ((a : ℤ) → k a ≡ and_then y (λ b. and_then (onto found (f a b)) g))
    → and_then x k ≡ and_then (and_then x (λ a. and_then y (λ b. f a b))) (λ z. g (z ∷ found))
go_on_two found (Ok a) y f g k h = h a ∙ go_on_one found y (f a) g
go_on_two found (Err e) y f g k h = refl

-- a tree's nodes put its value on top of what was found, by induction on the tree: its parts first, then what joins
-- them
pub walk_postfix : (table : List ℤ) (t : Tree) (found : List ℤ) (more : List Node)
    → after_nodes table (postfix t ++ more) found ≡ and_then (value t table) (λ z. after_nodes table more (z ∷ found))
walk_postfix table (number v) found more = go_on found (written v) (λ x. after_nodes table more x)
walk_postfix table (parameter t) found more =
    ap (λ (l : List Node). after_nodes table l found) (append_assoc (postfix t) (node.Parameter ∷ []) more)
    ∙ walk_postfix table t found (node.Parameter ∷ more)
    ∙ go_on_one found (value t table) (parameter_value table) (λ x. after_nodes table more x)
walk_postfix table (bracketed t) found more =
    ap (λ (l : List Node). after_nodes table l found) (append_assoc (postfix t) (node.Brackets ∷ []) more)
    ∙ walk_postfix table t found (node.Brackets ∷ more)
walk_postfix table (applied f t) found more =
    ap (λ (l : List Node). after_nodes table l found) (append_assoc (postfix t) (node.Applied f ∷ []) more)
    ∙ walk_postfix table t found (node.Applied f ∷ more)
    ∙ go_on_one found (value t table) (apply f) (λ x. after_nodes table more x)
walk_postfix table (joined op l r) found more =
    let right : List Node = postfix r ++ (node.Joined op ∷ more) in
    ap (λ (x : List Node). after_nodes table x found)
    (append_assoc (postfix l) (postfix r ++ node.Joined op ∷ []) more
    ∙ ap (λ (x : List Node). postfix l ++ x) (append_assoc (postfix r) (node.Joined op ∷ []) more))
    ∙ walk_postfix table l found right
    ∙ go_on_two found (value l table) (value r table) (join op) (λ x. after_nodes table more x) (λ a. after_nodes table right (a ∷ found))
    (λ a. walk_postfix table r (a ∷ found) (node.Joined op ∷ more))

-- the whole walk over a tree's nodes
pub walk_tree : (table : List ℤ) (nodes : List Node) → IsTree nodes → after_nodes table nodes [] ≡ and_then (value (tree_by nodes) table) (λ z. Ok (z ∷ []))
walk_tree table nodes h =
    ap (λ (l : List Node). after_nodes table l []) (h.1 ∙ sym (append-nil (postfix h.0)))
    ∙ walk_postfix table h.0 [] []
    ∙ ap (λ (t : Tree). and_then (value t table) (λ z. Ok (z ∷ []))) (sym (tree_by-postfix h.0) ∙ ap tree_by (sym h.1))

walked_to : (r : Result ℤ Fault) (z : ℤ) (rest : List ℤ) → and_then r (λ x. Ok (x ∷ [])) ≡ Ok (z ∷ rest) → Ok z ≡ r
walked_to (Ok x) z rest e = cc
walked_to (Err f) z rest e = absurd (cc)

walked_out : (r : Result ℤ Fault) (fault : Fault) → and_then r (λ x. Ok (x ∷ [])) ≡ Err fault → Err fault ≡ r
walked_out (Ok x) fault e = absurd (cc)
walked_out (Err f) fault e = cc

walked_nowhere : (r : Result ℤ Fault) → and_then r (λ x. Ok (x ∷ [])) ≡ Ok [] → ⊥
walked_nowhere (Ok x) e = cc
walked_nowhere (Err f) e = cc

-- the result of the walk
pub walk_ok : (table : List ℤ) (nodes : List Node) (z : ℤ) (rest : List ℤ) → IsTree nodes
    → after_nodes table nodes [] ≡ Ok (z ∷ rest) → Ok z ≡ value (tree_by nodes) table
walk_ok table nodes z rest h e = walked_to (value (tree_by nodes) table) z rest (sym (walk_tree table nodes h) ∙ e)

pub walk_err : (table : List ℤ) (nodes : List Node) (fault : Fault) → IsTree nodes
    → after_nodes table nodes [] ≡ Err fault → Err fault ≡ value (tree_by nodes) table
walk_err table nodes fault h e = walked_out (value (tree_by nodes) table) fault (sym (walk_tree table nodes h) ∙ e)

-- the walk never ends with nothing found
pub walk_some : (table : List ℤ) (nodes : List Node) → IsTree nodes → after_nodes table nodes [] ≡ Ok [] → ⊥
walk_some table nodes h e = walked_nowhere (value (tree_by nodes) table) (sym (walk_tree table nodes h) ∙ e)

-- ---- the loop

-- a node that stops the walk stops the whole walk
pub stopped : (table : List ℤ) (nodes : List Node) (i : ℕ) (found : List ℤ) (n : Node) (fault : Fault) → IsTree nodes → i < length nodes → n ≡ get_or nodes i n
    → after_nodes table (drop i nodes) found ≡ after_nodes table nodes [] → after_node table n found ≡ Err fault → Err fault ≡ value (tree_by nodes) table
stopped table nodes i found n fault tree within is walk e =
    walk_err table nodes fault tree (
    sym walk
    ∙ ap (λ (l : List Node). after_nodes table l found) (drop_more nodes i n within ∙ ap (λ (x : Node). x ∷ drop (i + 1) nodes) (sym is))
    ∙ ap (λ (r : Result (List ℤ) Fault). and_then r (λ x. after_nodes table (drop (i + 1) nodes) x)) e
    )

all_walked : (table : List ℤ) (nodes : List Node) (i : ℕ) (found : List ℤ) → length nodes ≤ i
    → after_nodes table (drop i nodes) found ≡ after_nodes table nodes [] → after_nodes table nodes [] ≡ Ok found
all_walked table nodes i found all walk = sym walk ∙ ap (λ (l : List Node). after_nodes table l found) (drop_all i nodes all)

-- after the last node the value is on top
pub finished : (table : List ℤ) (nodes : List Node) (i : ℕ) (found : List ℤ) (z : ℤ) (rest : List ℤ) → IsTree nodes → length nodes ≤ i
    → after_nodes table (drop i nodes) found ≡ after_nodes table nodes [] → found ≡ z ∷ rest → Ok z ≡ value (tree_by nodes) table
finished table nodes i found z rest tree all walk top =
    walk_ok table nodes z rest tree (all_walked table nodes i found all walk ∙ ap (λ (l : List ℤ). Ok l) top)

pub never_empty : (table : List ℤ) (nodes : List Node) (i : ℕ) (found : List ℤ) → IsTree nodes → length nodes ≤ i
    → after_nodes table (drop i nodes) found ≡ after_nodes table nodes [] → found ≡ [] → ⊥
never_empty table nodes i found tree all walk none =
    walk_some table nodes tree (all_walked table nodes i found all walk ∙ ap (λ (l : List ℤ). Ok l) none)
