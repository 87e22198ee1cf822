use Rattle.numbering.proofs.Copies.{table_is}
use Rattle.numbering.proofs.put_rows.Goals as goal

pub returns-then-ws-at-lt8 : goal.returns-then-ws-at-lt8
returns-then-ws-at-lt8 c K R m p q o r =
    let a = c.args in
    table_is K a.code.now a.n a.e R a.ws.now a.at c.put_few.new.table m p q c.requires.3 o r c.requires.2 c.put_few.ensures

pub returns-else-ws-at-lt8 : goal.returns-else-ws-at-lt8
returns-else-ws-at-lt8 c K R m p q o r =
    let a = c.args in
    table_is K a.code.now a.n a.e R a.ws.now a.at c.put_many.new.table m p q c.requires.3 o r c.requires.2 c.put_many.ensures
