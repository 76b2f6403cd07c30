use Rattle.std.proofs.Common.{arith, sym, ap, ◌∙◌, length, ◌+◌, ◌≡◌}
use Rattle.ng_words.specs.Private.Items.{last_size}
use Rattle.ng_words.proofs.LineStorageLemmas.{last_after_comment}
use Rattle.ng_words.proofs.AddedPieceLemmas.{comment_size}
use Rattle.ng_words.proofs.reading.comment.Goals as goal

pub unwrap-requires : goal.unwrap-requires
unwrap-requires c =
    let size = comment_size _ _ _ c.requires.begins c.in-Some.ensures in c.try_extend_from_slice.ensures.variant.1 (omega (arith, c.requires.fits))

pub returns-in-Some-clause-fits : goal.returns-in-Some-clause-fits
returns-in-Some-clause-fits c =
    let size : length c.in-Some.text.now + length c.comment.new.self + 2 ≡ length c.args.cursor.now = comment_size _ _ _ c.requires.begins c.in-Some.ensures in
    let longer : length c.try_extend_from_slice.new.self.items ≡ length c.args.comments.now.bytes.items + length c.in-Some.text.now =
    (rw c.unwrap.ensures at c.try_extend_from_slice.ensures.len) in
    λ t. omega arith

pub returns-in-Some-clause-last : goal.returns-in-Some-clause-last
returns-in-Some-clause-last c = λ t. sym (ap last_size c.push_item.ensures ∙ last_after_comment c.args.items.now.items _)
