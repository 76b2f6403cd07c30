use Rattle.ng_pace.proofs.corner.Bend.between.Goals as goal

pub returns-clause-most : goal.returns-clause-most
returns-clause-most c = record {
  x = λ slope next is is' between between'. c.axis_bend-x.ensures.most slope next is is' (between _) (between' _);
  y = λ slope next is is' between between'. c.axis_bend-y.ensures.most slope next is is' (between _) (between' _);
  z = λ slope next is is' between between'. c.axis_bend-z.ensures.most slope next is is' (between _) (between' _);
}

pub returns-clause-pulls_up : goal.returns-clause-pulls_up
returns-clause-pulls_up c = record {
  x = λ slope next is is' between between'. c.axis_pull.ensures.pull slope next is is' (between _) (between' _);
  y = λ slope next is is' between between'. c.axis_pull-2.ensures.pull slope next is is' (between _) (between' _);
  z = λ slope next is is' between between'. c.axis_pull-3.ensures.pull slope next is is' (between _) (between' _);
}

pub returns-clause-pulls_down : goal.returns-clause-pulls_down
returns-clause-pulls_down c = record {
  x = λ slope next is is' between between'. c.axis_pull-4.ensures.pull next slope is' is (between' _) (between _);
  y = λ slope next is is' between between'. c.axis_pull-5.ensures.pull next slope is' is (between' _) (between _);
  z = λ slope next is is' between between'. c.axis_pull-6.ensures.pull next slope is' is (between' _) (between _);
}
