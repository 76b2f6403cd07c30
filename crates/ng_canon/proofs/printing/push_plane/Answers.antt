use Rattle.std.proofs.Common.{codes}
use Rattle.ng_canon.proofs.TextAppendLemmas.{by_one, by_one_within}
use Rattle.ng_canon.proofs.printing.push_plane.Goals as goal

pub returns-in-Xy-clause-ok : goal.returns-in-Xy-clause-ok
returns-in-Xy-clause-ok g c =
    rw c.in-Xy.is (by_one c.extend_from_slice.result c.args.text.now.items (codes "SELECT_PLANE(XY)\n")
    c.extend_from_slice.new.self.items c.extend_from_slice.ensures.items)

pub returns-in-Xy-clause-err : goal.returns-in-Xy-clause-err
returns-in-Xy-clause-err g c = by_one_within c.extend_from_slice.result c.args.text.now.items
    (codes "SELECT_PLANE(XY)\n") c.extend_from_slice.new.self.items c.extend_from_slice.ensures.items

pub returns-in-Xz-clause-ok : goal.returns-in-Xz-clause-ok
returns-in-Xz-clause-ok g c =
    rw c.in-Xz.is (by_one c.extend_from_slice-in-Xz.result c.args.text.now.items (codes "SELECT_PLANE(XZ)\n")
    c.extend_from_slice-in-Xz.new.self.items c.extend_from_slice-in-Xz.ensures.items)

pub returns-in-Xz-clause-err : goal.returns-in-Xz-clause-err
returns-in-Xz-clause-err g c = by_one_within c.extend_from_slice-in-Xz.result c.args.text.now.items
    (codes "SELECT_PLANE(XZ)\n") c.extend_from_slice-in-Xz.new.self.items c.extend_from_slice-in-Xz.ensures.items

pub returns-in-Yz-clause-ok : goal.returns-in-Yz-clause-ok
returns-in-Yz-clause-ok g c =
    rw c.in-Yz.is (by_one c.extend_from_slice-in-Yz.result c.args.text.now.items (codes "SELECT_PLANE(YZ)\n")
    c.extend_from_slice-in-Yz.new.self.items c.extend_from_slice-in-Yz.ensures.items)

pub returns-in-Yz-clause-err : goal.returns-in-Yz-clause-err
returns-in-Yz-clause-err g c = by_one_within c.extend_from_slice-in-Yz.result c.args.text.now.items
    (codes "SELECT_PLANE(YZ)\n") c.extend_from_slice-in-Yz.new.self.items c.extend_from_slice-in-Yz.ensures.items
