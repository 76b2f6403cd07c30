use Rattle.std.proofs.Common.{arith, ap, sym, ◌∙◌, length, ◌+◌, ◌≤◌}
use Rattle.ng_words.specs.Plain.{capital}
use Rattle.ng_words.proofs.AddedPieceLemmas.{takes_comment, takes_assignment, takes_word, assignment_last, word_last, piece_shorter, advanced_shorter}
use Rattle.ng_words.proofs.reading.piece.Goals as goal

pub returns-in-40-clause-piece : goal.returns-in-40-clause-piece
returns-in-40-clause-piece c = takes_comment _ _ _ _ _ _ _ _ _ c.in-Some.ensures (ap capital c.in-40.is) c.comment.ensures.comment

pub returns-in-35-clause-piece : goal.returns-in-35-clause-piece
returns-in-35-clause-piece c =
    takes_assignment _ _ _ _ _ _ _ _ _ _ c.in-Some.ensures (ap capital c.in-35.is) c.advance-in-35.ensures c.assignment.ensures.assignment

pub returns-in-35-clause-nodes_fit : goal.returns-in-35-clause-nodes_fit
returns-in-35-clause-nodes_fit c =
    let less : length c.advance-in-35.new.self ≤ length c.args.cursor.now = advanced_shorter _ _ c.advance-in-35.ensures in
    λ t. omega (arith, c.assignment.ensures.fits t, c.requires.nodes_fit)

pub returns-in-35-clause-bytes_fit : goal.returns-in-35-clause-bytes_fit
returns-in-35-clause-bytes_fit c =
    λ t. let less : length c.assignment.new.cursor + 2 ≤ length c.args.cursor.now = piece_shorter _ _ _ _ _ (returns-in-35-clause-piece c) t in
    omega (arith, c.requires.bytes_fit)

pub returns-in-Some-letter_of-clause-piece : goal.returns-in-Some-letter_of-clause-piece
returns-in-Some-letter_of-clause-piece c =
    takes_word _ _ _ _ _ _ _ _ _ _ _ c.in-Some.ensures c.in-Some-letter_of.ensures c.advance.ensures c.word.ensures.word

pub returns-in-Some-letter_of-clause-nodes_fit : goal.returns-in-Some-letter_of-clause-nodes_fit
returns-in-Some-letter_of-clause-nodes_fit c =
    let less : length c.advance.new.self ≤ length c.args.cursor.now = advanced_shorter _ _ c.advance.ensures in
    λ t. omega (arith, c.word.ensures.fits t, c.requires.nodes_fit)

pub returns-in-Some-letter_of-clause-bytes_fit : goal.returns-in-Some-letter_of-clause-bytes_fit
returns-in-Some-letter_of-clause-bytes_fit c =
    λ t. let less : length c.word.new.cursor + 2 ≤ length c.args.cursor.now = piece_shorter _ _ _ _ _ (returns-in-Some-letter_of-clause-piece c) t in
    omega (arith, c.requires.bytes_fit)

pub returns-in-35-clause-last : goal.returns-in-35-clause-last
returns-in-35-clause-last c = λ t. c.requires.last ∙ sym (
    assignment_last c.advance-in-35.new.self c.assignment.new.cursor c.assignment.result c.args.items.now.items
    c.assignment.new.items.items c.args.nodes.now.items c.assignment.new.nodes.items
    c.assignment.ensures.assignment t
    )

pub returns-in-Some-letter_of-clause-last : goal.returns-in-Some-letter_of-clause-last
returns-in-Some-letter_of-clause-last c = λ t. c.requires.last ∙ sym (
    word_last c.in-Some-letter_of.letter c.advance.new.self c.word.new.cursor c.word.result c.args.items.now.items
    c.word.new.items.items c.args.nodes.now.items c.word.new.nodes.items
    c.word.ensures.word t
    )
