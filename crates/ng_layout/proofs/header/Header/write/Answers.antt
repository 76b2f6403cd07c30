use Rattle.std.proofs.Common.{◌≡◌, ◌==◌, ℕ, true, replicate, ◌∙◌, lit≤, arith}
use Rattle.std.proofs.lemmas.Bool.Decides.{nat_tests}
use Rattle.ng_layout.specs.Header.{header_at, is_marked}
use Rattle.ng_layout.proofs.ByteLemmas.{number-below, bytes-below, bytes-from, below-more, below-none, from-more}
use Rattle.ng_layout.proofs.SectorLemmas.{bytes-zeros}
use Rattle.ng_layout.proofs.header.Header.write.Goals as goal

equals : (x y : ℕ) → x ≡ y → (x == y) ≡ true
equals x y p = grind (arith, nat_tests)

pub returns : goal.returns
unfolding is_marked header_at
returns c =
    let s0 = replicate 512 0 in
    let p1 = c.put_u64.ensures in let s1 = c.put_u64.new.bytes in
    let p2 = c.put_u32.ensures in let s2 = c.put_u32.new.bytes in
    let p3 = c.put_u64-2.ensures in let s3 = c.put_u64-2.new.bytes in
    let p4 = c.put_u64-3.ensures in let s4 = c.put_u64-3.new.bytes in
    let p5 = c.put_u64-4.ensures in let s5 = c.put_u64-4.new.bytes in
    let t5 = below-none 40 s5 in
    let t4 = below-more 32 40 s4 s5 s5 p5.below t5 (lit≤ tt) in
    let t3 = below-more 24 32 s3 s4 s5 p4.below t4 (lit≤ tt) in
    let t2 = below-more 16 24 s2 s3 s5 p3.below t3 (lit≤ tt) in
    let t1 = below-more 8 16 s1 s2 s5 p2.below t2 (lit≤ tt) in
    let b1 = p1.beyond in
    let b2 = from-more 8 12 s0 s1 s2 b1 p2.beyond (lit≤ tt) in
    let b3 = from-more 12 24 s0 s2 s3 b2 p3.beyond (lit≤ tt) in
    let b4 = from-more 24 32 s0 s3 s4 b3 p4.beyond (lit≤ tt) in
    let b5 = from-more 32 40 s0 s4 s5 b4 p5.beyond (lit≤ tt) in
    let e1 = number-below 8 0 8 s1 s5 t1 (lit≤ tt) ∙ p1.written in
    let e2 = number-below 4 8 16 s2 s5 t2 (lit≤ tt) ∙ p2.written in
    let e3 = number-below 8 16 24 s3 s5 t3 (lit≤ tt) ∙ p3.written in
    let e4 = number-below 8 24 32 s4 s5 t4 (lit≤ tt) ∙ p4.written in
    let e5 = number-below 8 32 40 s5 s5 t5 (lit≤ tt) ∙ p5.written in
    record {
      marked = equals _ _ (e1 ∙ c.get_u64.ensures);
      format = e2 ∙ c.number.ensures;
      header = λ i. record { format = c.args.self.format; epoch = e3 i; area = e4 i; length = e5 i };
      gap = bytes-below 4 12 16 s2 s5 t2 (lit≤ tt) ∙ bytes-from 4 12 12 s0 s2 b2 (lit≤ tt) ∙ bytes-zeros 4 12 512 (lit≤ tt);
      rest = bytes-from 472 40 40 s0 s5 b5 (lit≤ tt) ∙ bytes-zeros 472 40 512 (lit≤ tt);
    }
