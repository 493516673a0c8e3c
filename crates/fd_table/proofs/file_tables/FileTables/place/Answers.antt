use Rattle.fd_table.proofs.file_tables.FileTables.place.Goals as goal

pub put-requires-clause-kept : goal.put-requires-clause-kept
put-requires-clause-kept c = rw (c.at.ensures, c.all.ensures, c.all-2.ensures) c.requires.kept

pub returns-in-Some : goal.returns-in-Some
returns-in-Some c = λ f hand given.
    let follows = rw (c.at.ensures, c.all.ensures, c.all-2.ensures) at c.put.ensures in
    rw c.in-Some.is (follows f hand given)

pub returns-in-None : goal.returns-in-None
returns-in-None c = λ f hand given.
    let follows = rw (c.at.ensures, c.all.ensures, c.all-2.ensures) at c.release.ensures in
    rw c.in-None.is (follows f hand given)
