-- The first piece is taken from the places, and the rest is kept.
use Rattle.std.proofs.Common.{ℕ, ◌≤◌, List, length, take, drop, ap, sym, subst, ◌∙◌, arith, length-drop}
use Rattle.ng_words.specs.LineStorage.{IsTree, AreEncodedPieces}
use Rattle.ng_words.specs.declared.tree.Node.{Node}
use Rattle.ng_words.proofs.LineStorageLemmas.{stored_number, stored_word, stored_assignment, stored_comment}
use Rattle.ng_words.proofs.pieces.Pieces.next.Goals as goal

pub invariant_of-self : goal.invariant_of-self
invariant_of-self c = ((stored_number _ _ _ _ _ c.self.invariant.0 c.in_ok-item.ensures.cases.0 c.in-Number.is).encoded, c.self.invariant.1)

pub invariant_of-value : goal.invariant_of-value
invariant_of-value c = (
  subst IsTree (sym c.from_ref.ensures.value) (stored_number _ _ _ _ _ c.self.invariant.0 c.in_ok-item.ensures.cases.0 c.in-Number.is).tree,
  omega (arith, c.from_ref.ensures.len),
)

pub split_tree-value-requires-clause-within : goal.split_tree-value-requires-clause-within
split_tree-value-requires-clause-within c = (stored_word _ _ _ _ _ c.self.invariant.0 c.in_ok-item.ensures.cases.0 c.in-Word.is).within

pub split_tree-value-requires-clause-tree : goal.split_tree-value-requires-clause-tree
split_tree-value-requires-clause-tree c = (stored_word _ _ _ _ _ c.self.invariant.0 c.in_ok-item.ensures.cases.0 c.in-Word.is).tree

pub invariant_of-self-in-Word : goal.invariant_of-self-in-Word
invariant_of-self-in-Word c =
    let first = stored_word _ _ _ _ _ c.self.invariant.0 c.in_ok-item.ensures.cases.0 c.in-Word.is in
    let rest = c.split_tree-value.ensures.rest in (
      subst (λ (nodes : List Node).
          AreEncodedPieces (record {
            items = c.in_ok-item.others.now;
            nodes = nodes;
            bytes =
                c.self.inside.bytes.now;
          })) (sym rest) first.encoded,
      omega (arith, c.self.invariant.1, ap length rest, length-drop c.in-Word.n c.self.inside.nodes.now),
    )

pub split_tree-index-requires-clause-within : goal.split_tree-index-requires-clause-within
split_tree-index-requires-clause-within c = (stored_assignment _ _ _ _ _ c.self.invariant.0 c.in_ok-item.ensures.cases.0 c.in-Assignment.is).index_within

pub split_tree-index-requires-clause-tree : goal.split_tree-index-requires-clause-tree
split_tree-index-requires-clause-tree c = (stored_assignment _ _ _ _ _ c.self.invariant.0 c.in_ok-item.ensures.cases.0 c.in-Assignment.is).index

pub split_tree-value-requires-in-Assignment-clause-within : goal.split_tree-value-requires-in-Assignment-clause-within
split_tree-value-requires-in-Assignment-clause-within c =
    subst (λ (nodes : List Node). c.in-Assignment.n ≤ length nodes) (sym c.split_tree-index.ensures.rest)
    (stored_assignment _ _ _ _ _ c.self.invariant.0 c.in_ok-item.ensures.cases.0 c.in-Assignment.is).value_within

pub split_tree-value-requires-in-Assignment-clause-tree : goal.split_tree-value-requires-in-Assignment-clause-tree
split_tree-value-requires-in-Assignment-clause-tree c =
    subst (λ (nodes : List Node). IsTree (take c.in-Assignment.n nodes)) (sym c.split_tree-index.ensures.rest)
    (stored_assignment _ _ _ _ _ c.self.invariant.0 c.in_ok-item.ensures.cases.0 c.in-Assignment.is).value

pub invariant_of-self-in-Assignment : goal.invariant_of-self-in-Assignment
invariant_of-self-in-Assignment c =
    let first = stored_assignment _ _ _ _ _ c.self.invariant.0 c.in_ok-item.ensures.cases.0 c.in-Assignment.is in
    let rest = c.split_tree-value-in-Assignment.ensures.rest ∙ ap (drop c.in-Assignment.n) c.split_tree-index.ensures.rest in (
      subst (λ (nodes : List Node).
          AreEncodedPieces (record {
            items = c.in_ok-item.others.now;
            nodes = nodes;
            bytes =
                c.self.inside.bytes.now;
          })) (sym rest) first.encoded,
      omega (
        arith,
        c.self.invariant.1,
        ap length rest,
        length-drop c.in-Assignment.n (drop c.in-Assignment.i c.self.inside.nodes.now),
        length-drop c.in-Assignment.i c.self.inside.nodes.now,
      ),
    )

pub split_at-requires : goal.split_at-requires
split_at-requires c = (stored_comment _ _ _ _ c.self.invariant.0 c.in_ok-item.ensures.cases.0 c.in-Comment.is).within

pub invariant_of-self-in-Comment : goal.invariant_of-self-in-Comment
invariant_of-self-in-Comment c = (
  subst (λ (bytes : List ℕ).
      AreEncodedPieces (record { items = c.in_ok-item.others.now; nodes = c.self.inside.nodes.now; bytes = bytes }))
      (sym c.split_at.ensures.back)
      (stored_comment _ _ _ _ c.self.invariant.0 c.in_ok-item.ensures.cases.0 c.in-Comment.is).encoded,
  c.self.invariant.1,
)
