mod Printed
mod Opening
