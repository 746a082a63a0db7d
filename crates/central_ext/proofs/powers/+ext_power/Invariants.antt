use Rattle.central_ext.proofs.powers.+ext_power.Given as goal

abbrev pub decreases-ext_power : goal.decreases-ext_power
decreases-ext_power l = l.j
