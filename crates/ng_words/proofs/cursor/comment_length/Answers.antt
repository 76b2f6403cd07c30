use Rattle.ng_words.proofs.CommentLemmas.{found_after-nothing, comment_closes, comment_opens, comment_goes, comment_ends}
use Rattle.ng_words.proofs.cursor.comment_length.Goals as goal

pub loop-i-init : goal.loop-i-init
loop-i-init c = found_after-nothing _

pub loop-i-preserved : goal.loop-i-preserved
loop-i-preserved c = comment_goes _ _ c.loop-i-test.true c.if-byte-eq41.false c.if-byte-eq40.false c.loop-i.invariant

pub returns-then-byte-eq41 : goal.returns-then-byte-eq41
returns-then-byte-eq41 c = comment_closes _ _ c.loop-i-test.true c.if-byte-eq41.true c.loop-i.invariant

pub returns-then-byte-eq40 : goal.returns-then-byte-eq40
returns-then-byte-eq40 c = comment_opens _ _ c.loop-i-test.true c.if-byte-eq40.true c.loop-i.invariant

pub returns : goal.returns
returns c = comment_ends _ _ c.loop-i-test.false c.loop-i.invariant
