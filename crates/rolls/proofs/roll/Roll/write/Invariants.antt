use Rattle.rolls.proofs.roll.Roll.write.Given as goal

-- the trees that are named are those that are lent
abbrev pub ghosts-write_named : goal.ghosts-write_named
ghosts-write_named g a = record { lent = a.lent.now }
