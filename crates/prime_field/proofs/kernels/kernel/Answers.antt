use Rattle.prime_field.proofs.Names.{◌≡◌, true, is_modulus}
use Rattle.prime_field.proofs.KernelLists.{entries_below}
use Rattle.prime_field.proofs.kernels.kernel.Goals as goal

pub kernel_of-requires-clause-below : goal.kernel_of-requires-clause-below
kernel_of-requires-clause-below c =
    rw c.as_slice-numbers.ensures.numbers (entries_below c.args.ring.now.q c.args.a.now.width c.args.a.now.numbers c.as_slice-numbers.ensures.square.square c.requires.entries_below)

pub returns : goal.returns
returns c =
    let basis = λ (listed : is_modulus c.args.ring.now.q ≡ true).
    rw (c.width-w.ensures.width, c.as_slice-numbers.ensures.numbers) at (c.in_ok-basis.ensures.basis listed) in
    let own = basis c.args.ring.now.listed in
    record {
      whole_rows = own.whole_rows;
      below = own.below;
      in_kernel = λ listed. (basis listed).in_kernel;
      spans = λ listed. (basis listed).spans;
      reduced = λ listed. (basis listed).reduced;
    }
